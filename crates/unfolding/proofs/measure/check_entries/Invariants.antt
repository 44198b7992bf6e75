-- `check_entries` meets its contract: the table holds the levels of the entries passed, what the whole search finds is what the search of the
-- entries left finds, and what the entries come to is what those passed do and what the rest adds.
use Rattle.std.proofs.Common.{length}
use Rattle.blocks.proofs.Refusing.InOrder.{OverNumbered}
use Rattle.blocks.specs.Entries.{entries_of}
use Rattle.unfolding.proofs.Measuring.{Past}
use Rattle.unfolding.specs.code.Known.{levels_in, size_in}
use Rattle.unfolding.proofs.measure.check_entries.Given as goal

abbrev pub invariant-loop-before : goal.invariant-loop-before
invariant-loop-before l = record {
  goes : (goal.iterator-loop-before).can_next l.before-iterator;
  ends : (goal.iterator-loop-before).is_finite l.before-iterator;
  over : OverNumbered l.s l.total l.initial.before-iterator;
  past : Past l.tables.count (size_in l.tables.of) (levels_in l.tables.of) (entries_of l.s) l.total l.level l.had l.deep (length l.yielded);
}
