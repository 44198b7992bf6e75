-- `find_mates` meets its contract: one entry after another.
use lib.ListN.{length-set}
use mathlib.Core.Path.{◌∙◌}
use native.Mathlib.Omega.{arith}
use Rattle.narrowest.proofs.mates.MateLaws.{mated-next}
use Rattle.narrowest.proofs.mates.Joining.find_mates.Goals as goal

pub loop-n-preserved : goal.loop-n-preserved
loop-n-preserved c =
    let a = c.args in
    let i = c.loop-n.invariant in (
      mated-next a.self.first.held a.self.second.rows.now i.0 c.loop-n-test.true (omega (arith, c.loop-n-test.true, i.1, c.requires.0)) c.mate-mate.ensures,
      length-set c.loop-n.mates _ _ ∙ i.1,
    )
