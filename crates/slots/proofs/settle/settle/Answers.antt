use Prim.Native.Nat.{◌+◌, ◌-◌}
use mathlib.Core.Path.{◌≡◌, refl}
use native.Mathlib.Omega.{arith}
use Rattle.slots.proofs.settle.SettleLaws.{settle_goes, settle-starts}
use Rattle.slots.proofs.settle.settle.Goals as goal

pub loop-s-init : goal.loop-s-init
loop-s-init c =
    let e : c.args.used + 1 - 1 ≡ c.args.used = omega arith in
    (omega arith, rw e (settle-starts c.requires.2 c.requires.3), refl, refl)

pub loop-s-preserved : goal.loop-s-preserved
loop-s-preserved c =
    let l = c.loop-s in
    let a = c.requires in
    let k = c.settle_slot.auto in
    let t = c.loop-s-test.true in (
      omega arith,
      settle_goes l.invariant.1 a.1 (omega (arith, t)) l.invariant.0 (omega (arith, l.invariant.0, l.invariant.1.size, a.0)) (omega (arith, l.invariant.0, l.invariant.2, a.2.room)) (omega (arith, l.invariant.0, l.invariant.3, a.3.room))
          c.settle_slot.ensures,
      omega (arith, k, l.invariant.2),
      omega (arith, k, l.invariant.3),
    )
