-- `drop_empty` meets its contract: the entries after have been asked.
use Prim.Native.Nat.{◌-◌}
use lib.ListN.{length}
use mathlib.Core.Path.{◌≡◌}
use Rattle.narrowest.specs.code.Forms.{entries_in}
use Rattle.narrowest.specs.code.Mates.{Settled}
use Rattle.narrowest.proofs.mates.Joining.drop_empty.Given as goal

abbrev pub invariant-loop-i : goal.invariant-loop-i
invariant-loop-i l =
    Settled l.self.exclusions.pairs.now (entries_in l.self.first.rows.now) (entries_in l.self.second.rows.now) (length l.self.first.rows.now - l.i) l.initial.mates l.mates
    × (length l.mates ≡ length l.initial.mates)
