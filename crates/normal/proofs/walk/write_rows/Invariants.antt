-- `write_rows` meets its contract: the places of the rows from row k on are still to do.
use Prim.Native.Nat.{◌-◌}
use lib.ListN.{length}
use mathlib.Core.Path.{◌≡◌}
use Rattle.normal.proofs.walk.PlaceWalk.{Walk}
use Rattle.normal.proofs.walk.write_rows.Given as goal

abbrev pub invariant-loop-k : goal.invariant-loop-k
invariant-loop-k l = Walk l.slots.table.now (length l.initial.rows) l.k l.rows l.count l.below × (length l.order ≡ length l.initial.order)

abbrev pub decreases-loop-k : goal.decreases-loop-k
decreases-loop-k l = 1009 - l.k
