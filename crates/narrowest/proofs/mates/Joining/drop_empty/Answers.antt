-- `drop_empty` meets its contract: by whether the places of the entry say something.
use Prim.Native.Nat.{◌+◌, ◌-◌, ◌≤◌, ℕ}
use lib.ListN.{length, length-set}
use mathlib.Core.Bool.{not}
use mathlib.Core.Path.{◌∙◌, ◌≡◌, ap}
use native.Mathlib.Omega.{arith}
use Rattle.base.proofs.Tests.{confirmed, refuted}
use Rattle.narrowest.proofs.mates.MateLaws.{settled-dropped, settled-said, settled-unmated}
use Rattle.narrowest.proofs.mates.Joining.drop_empty.Goals as goal
use Rattle.narrowest.proofs.mates.Joining.drop_empty.Goals.{else-mates-n-ne0, else-mates-n-ne0-via-else-mates-n-ne0, else-mates-n-ne0-via-then-mates-n-ne0+else-not-says, then-mates-n-ne0+then-not-says}

pub loop-i-preserved : goal.loop-i-preserved
loop-i-preserved c =
    let a = c.args.self in
    let i = c.loop-i.invariant in
    let J = c.requires.1 in
    let m = c.requires.2 in
    let n : ℕ = length a.first.rows.now - c.loop-i.i in
    let lo : 1 ≤ n = omega (arith, c.loop-i-test.true) in
    let hi : n ≤ length a.first.rows.now = omega arith in
    let e : length a.first.rows.now - c.loop-i.i - 1 ≡ length a.first.rows.now - (c.loop-i.i + 1) = omega arith in
    elim c.if-mates-n-ne0.branch [
      | then-mates-n-ne0+then-not-says w ↦
          rw (w.mates-is, ← e) (
            settled-dropped J a.first.held a.second.held m i.0 lo hi w.if-mates-n-ne0.true (refuted w.says.ensures (ap not w.if-not-says.true))
                (omega (arith, hi, i.1, c.requires.0)),
            length-set c.loop-i.mates n 0 ∙ i.1,
          )
      | else-mates-n-ne0 w ↦
          rw (w.mates-is, ← e) (
            elim w.else-mates-n-ne0.branch [
              | else-mates-n-ne0-via-then-mates-n-ne0+else-not-says v ↦
                  settled-said J a.first.held a.second.held m i.0 lo hi v.if-mates-n-ne0.true (confirmed v.says.ensures (ap not v.if-not-says.false))
              | else-mates-n-ne0-via-else-mates-n-ne0 v ↦ settled-unmated J a.first.held a.second.held m i.0 lo hi v.if-mates-n-ne0.false
            ],
            i.1,
          )
    ]
