-- `index_specimen` meets its contract: the index is that of the entries passed.
use Rattle.std.proofs.Common.{length}
use Rattle.blocks.proofs.Refusing.InOrder.{OverNumbered}
use Rattle.blocks.specs.Entries.{entries_of}
use Rattle.blocks.specs.declared.Schema.TheVariants.{Specimen}
use Rattle.fit.specs.code.Index.{Indexed, bucket_of}
use Rattle.fit.proofs.index.index_specimen.Given as goal

abbrev pub invariant-loop-before : goal.invariant-loop-before
invariant-loop-before l = record {
  goes : (goal.iterator-loop-before).can_next l.before-iterator;
  ends : (goal.iterator-loop-before).is_finite l.before-iterator;
  over : OverNumbered l.s l.total l.initial.before-iterator;
  index : Indexed l.most (bucket_of Specimen l.most (entries_of l.s)) l.index (length l.yielded);
}
