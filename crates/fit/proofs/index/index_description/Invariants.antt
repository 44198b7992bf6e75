-- `index_description` meets its contract: the index and the marks are those of the entries passed.
use Rattle.std.proofs.Common.{length}
use Rattle.blocks.proofs.Refusing.InOrder.{OverNumbered}
use Rattle.blocks.specs.Entries.{entries_of}
use Rattle.blocks.specs.declared.Schema.TheVariants.{Description}
use Rattle.fit.specs.code.Bare.{Marked, demands}
use Rattle.fit.specs.code.Index.{Indexed, bucket_of}
use Rattle.fit.proofs.index.index_description.Given as goal

abbrev pub invariant-loop-before : goal.invariant-loop-before
invariant-loop-before l = record {
  goes : (goal.iterator-loop-before).can_next l.before-iterator;
  ends : (goal.iterator-loop-before).is_finite l.before-iterator;
  over : OverNumbered l.d l.total l.initial.before-iterator;
  index : Indexed l.most (bucket_of Description l.most (entries_of l.d)) l.index (length l.yielded);
  marks : Marked demands (entries_of l.d) (length l.yielded) l.most l.marks;
}
