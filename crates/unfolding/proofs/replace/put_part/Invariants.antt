-- `put_part` meets its contract: what is written, and what the entries left still give, are all.
use Rattle.std.proofs.Common.{◌++◌, length, map}
use Rattle.blocks.proofs.Refusing.InOrder.{OverNumbered}
use Rattle.blocks.specs.Entries.{entries_of}
use Rattle.names.specs.Unfold.{relocate, unfolded}
use Rattle.names.specs.code.Passes.{kept_by}
use Rattle.unfolding.specs.code.Known.{size_in}
use Rattle.unfolding.specs.code.Replacing.{Passing}
use Rattle.unfolding.proofs.replace.put_part.Given as goal

abbrev pub invariant-loop-before : goal.invariant-loop-before
invariant-loop-before l = record {
  goes : (goal.iterator-loop-before).can_next l.before-iterator;
  ends : (goal.iterator-loop-before).is_finite l.before-iterator;
  over : OverNumbered l.s l.total l.initial.before-iterator;
  passing : Passing (kept_by (size_in l.tables.of)) (entries_of l.s) (l.initial.out ++ map (relocate (length l.initial.out) l.o) (unfolded (kept_by (size_in l.tables.of)) (entries_of l.s))) l.number (length l.yielded) l.out;
}
