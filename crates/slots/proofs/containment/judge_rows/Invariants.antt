-- `judge_rows` meets its contract: the rows of the services passed stand in the table, and those of the others give what it is in the end.
use Rattle.base.proofs.RowsLaws.{RowsSoFar}
use Rattle.lists.specs.Parts.{parts_of}
use Rattle.pairs.specs.Pairs.{under}
use Rattle.slots.specs.Containment.{contained_rows}
use Rattle.slots.proofs.containment.judge_rows.Given as goal

abbrev pub invariant-loop-i : goal.invariant-loop-i
invariant-loop-i l = RowsSoFar (contained_rows (under l.exclusions.pairs.now) (parts_of l.services.list.now)) l.initial.table l.table l.i
