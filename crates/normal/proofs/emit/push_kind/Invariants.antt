-- `push_kind` meets its contract: before each turn, the rows of the tags before it are pushed.
use lib.ListN.{drop, length}
use mathlib.Core.List.{map}
use Rattle.normal.proofs.emit.PushLaws.{Pushing}
use Rattle.normal.specs.code.ClassRuns.{kind_cell}
use Rattle.normal.specs.code.Emitted.{kind_in, kind_rows}
use Rattle.normal.proofs.emit.push_kind.Given as goal

abbrev pub invariant-loop-x : goal.invariant-loop-x
invariant-loop-x l =
    Pushing (length l.initial.rows) l.initial.rows l.count (kind_rows (kind_in l.kind) l.owner (map (kind_cell l.table (kind_in l.kind)) l.tags)) l.rows l.k
    (kind_rows (kind_in l.kind) l.owner (map (kind_cell l.table (kind_in l.kind)) (drop l.x-index l.tags)))
