-- `push_every` meets its contract: before each turn, the tags before it are done.
use lib.ListN.{drop, length}
use mathlib.Core.Bool.{true}
use mathlib.Core.List.{map}
use Rattle.normal.proofs.emit.PlacingLaws.{Linking}
use Rattle.normal.specs.code.ClassRuns.{cell_at}
use Rattle.normal.specs.code.Emitted.{kept_by}
use Rattle.normal.proofs.emit.push_every.Given as goal

abbrev pub invariant-loop-x : goal.invariant-loop-x
invariant-loop-x l =
    Linking (length l.initial.rows) (kept_by l.slots) l.owner (map (cell_at l.slots.table.now true) l.tags) l.initial.rows l.count l.initial.below
    (map (cell_at l.slots.table.now true) (drop l.x-index l.tags)) l.rows l.k l.below
