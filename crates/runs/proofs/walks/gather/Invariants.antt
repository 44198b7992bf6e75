-- `gather` meets its contract: the tags stored and those of the slots left make up the whole.
use lib.ListN.{length}
use Rattle.runs.proofs.walks.GatherLaws.{Gathering}
use Rattle.runs.specs.code.Walked.{gathered}
use Rattle.runs.proofs.walks.gather.Given as goal

abbrev pub invariant-loop-s : goal.invariant-loop-s
invariant-loop-s l =
    Gathering l.table l.low (gathered l.table l.last l.before l.run l.low (length l.initial.order)) l.initial.order l.order l.s-iterator l.n
