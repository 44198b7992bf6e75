-- `gather` meets its contract: the facts of the entries gone over stand in front.
use Rattle.std.proofs.Common.{◌≡◌, ◌+◌, ◌<◌, ℕ, get_or, length}
use Rattle.blocks.proofs.Refusing.InOrder.{OverNumbered}
use Rattle.blocks.specs.Entries.{entries_of, nth}
use Rattle.items.specs.code.Record.{fact_of}
use Rattle.items.proofs.facts.gather.Given as goal

abbrev pub invariant-loop-before : goal.invariant-loop-before
invariant-loop-before l = record {
  goes : (goal.iterator-loop-before).can_next l.before-iterator;
  ends : (goal.iterator-loop-before).is_finite l.before-iterator;
  over : OverNumbered l.delivered.bytes.now l.delivered.entries l.initial.before-iterator;
  size : length l.facts ≡ l.delivered.entries;
  done : (j : ℕ) → j < length l.yielded → get_or l.facts j 0 ≡ fact_of (nth (entries_of l.delivered.bytes.now) (j + 1));
  small : (j : ℕ) → j < length l.yielded → get_or l.facts j 0 < 1099511627776;
}
