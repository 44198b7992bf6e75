-- `walk_rows` meets its contract: the places of the rows from row i on are still to do.
use Prim.Native.Nat.{◌-◌}
use lib.ListN.{length}
use mathlib.Core.Path.{◌≡◌}
use Rattle.compare.proofs.specimen.SpecimenWalk.{Walk}
use Rattle.compare.proofs.specimen.walk_rows.Given as goal

abbrev pub invariant-loop-i : goal.invariant-loop-i
invariant-loop-i l = Walk l.slots.table.now l.path.links l.path.depth l.path.entry (length l.initial.rows) l.i l.rows l.count l.below × (length l.order ≡ length l.initial.order)

abbrev pub decreases-loop-i : goal.decreases-loop-i
decreases-loop-i l = 2017 - l.i
