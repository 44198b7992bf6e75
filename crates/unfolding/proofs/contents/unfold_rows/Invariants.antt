-- `unfold_rows` meets its contract: what is written, and what the entries left still give, are all.
use Rattle.std.proofs.Common.{◌≡◌, ◌≤◌, ℕ, [], get_or, length}
use Rattle.blocks.proofs.Refusing.InOrder.{OverNumbered}
use Rattle.blocks.specs.Entries.{entries_of}
use Rattle.names.specs.NamedReading.{dictionary_of}
use Rattle.names.specs.Unfold.{contents, unfolded_by}
use Rattle.unfolding.specs.code.Replacing.{Laid, Passing}
use Rattle.unfolding.proofs.contents.unfold_rows.Given as goal

abbrev pub invariant-loop-before : goal.invariant-loop-before
invariant-loop-before l = record {
  goes : (goal.iterator-loop-before).can_next l.before-iterator;
  ends : (goal.iterator-loop-before).is_finite l.before-iterator;
  over : OverNumbered l.d l.total l.initial.before-iterator;
  passing : Passing (contents (dictionary_of l.dictionary.bytes.now)) (entries_of l.d) (unfolded_by (dictionary_of l.dictionary.bytes.now) (entries_of l.d)) l.number (length l.yielded) l.rows;
  laid : Laid (dictionary_of l.dictionary.bytes.now) l.opening l.rows;
  bound : (j : ℕ) → get_or l.number j 0 ≤ length l.rows;
  long : length l.number ≡ 1009;
  none : l.opening.opened ≡ [];
}
