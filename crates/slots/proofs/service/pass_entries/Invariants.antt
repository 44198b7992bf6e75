-- `pass_entries` meets its contract: those passed are checked, what the whole search finds is what the search of those left finds, and none of those
-- passed has failed.
use Rattle.std.proofs.Common.{length}
use Rattle.std.specs.Iterator.Adapters.{enumerate_count}
use Rattle.pairs.specs.Pairs.{under}
use Rattle.slots.proofs.service.LeftLaws.{Resting}
use Rattle.slots.specs.code.Pass.{JudgedSoFar, left_in}
use Rattle.slots.proofs.service.pass_entries.Given as goal

abbrev pub invariant-loop-before : goal.invariant-loop-before
invariant-loop-before l = record {
  resting : Resting l.d l.total 0 l.rest l.level;
  judged : JudgedSoFar (under l.supplier.marked.exclusions.pairs.now) l.d l.supplier.slots.table.now 4093 l.supplier.slots.cells.now
      l.supplier.slots.used (enumerate_count l.rest) l.states;
}

abbrev pub decreases-loop-before : goal.decreases-loop-before
decreases-loop-before l = length (left_in l.rest)
