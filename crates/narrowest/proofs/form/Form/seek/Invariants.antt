-- `seek` meets its contract: what is left to look at.
use Prim.Native.Nat.{◌-◌, ◌<◌}
use Rattle.narrowest.specs.code.Forms.{Halving}
use Rattle.narrowest.proofs.form.Form.seek.Given as goal

abbrev pub invariant-loop-from : goal.invariant-loop-from
invariant-loop-from l = Halving l.self.rows.now l.key l.from l.to × (l.step < 1024)

abbrev pub decreases-loop-from : goal.decreases-loop-from
decreases-loop-from l = l.to - l.from
