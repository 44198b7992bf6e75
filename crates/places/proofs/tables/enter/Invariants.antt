-- `enter` meets its contract: the entries gone over stand in front, behind the entry of zero bytes, and own nothing yet.
use Rattle.std.proofs.Common.{◌≡◌, ◌<◌, ◌≤◌, ℕ, get_or, length}
use Rattle.blocks.proofs.Refusing.InOrder.{OverNumbered}
use Rattle.blocks.specs.Entries.{entries_of, nth, zero_entry}
use Rattle.places.proofs.tables.enter.Given as goal

abbrev pub invariant-loop-before : goal.invariant-loop-before
invariant-loop-before l = record {
  goes : (goal.iterator-loop-before).can_next l.before-iterator;
  ends : (goal.iterator-loop-before).is_finite l.before-iterator;
  over : OverNumbered l.d l.total l.initial.before-iterator;
  size : l.total < length l.entries;
  first_size : l.total < length l.first;
  done : (j : ℕ) → j ≤ length l.yielded → get_or l.entries j zero_entry ≡ nth (entries_of l.d) j;
  empty : (j : ℕ) → j ≤ length l.yielded → get_or l.first j 0 ≡ 0;
}
