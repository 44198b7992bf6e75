-- `slot_named` meets its contract: the answer is the first of the slots left that has the name.
use Rattle.runs.proofs.walks.NameLaws.{Looking}
use Rattle.runs.specs.code.Walked.{named}
use Rattle.runs.proofs.walks.slot_named.Given as goal

abbrev pub invariant-loop-s : goal.invariant-loop-s
invariant-loop-s l =
    Looking l.table l.name (named l.table l.last l.before l.run l.name) l.s-iterator
