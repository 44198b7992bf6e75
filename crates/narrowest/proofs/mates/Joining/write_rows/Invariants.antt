-- `write_rows` meets its contract: the places of the rows from row i on are still to do.
use Prim.Native.Nat.{◌-◌}
use lib.ListN.{length}
use mathlib.Core.Path.{◌≡◌}
use Rattle.narrowest.proofs.walk.WalkLaws.{Walked}
use Rattle.narrowest.proofs.mates.Joining.write_rows.Given as goal

abbrev pub invariant-loop-i : goal.invariant-loop-i
invariant-loop-i l =
    Walked l.self.exclusions.pairs.now l.self.first.rows.now l.self.second.rows.now l.mates (length l.initial.rows) l.i l.rows l.count l.below
    × (length l.order ≡ length l.initial.order)

abbrev pub decreases-loop-i : goal.decreases-loop-i
decreases-loop-i l = 1009 - l.i
