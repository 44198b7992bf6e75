use Prim.Native.Nat.{◌+◌, ◌-◌}
use mathlib.Core.Path.{◌≡◌}
use native.Mathlib.Omega.{arith}
use Rattle.slots.proofs.restrict.RestrictLaws.{restrict-goes}
use Rattle.slots.specs.code.Tables.{slots_in}
use Rattle.slots.proofs.restrict.restrict_slots.Goals as goal

pub loop-s-preserved : goal.loop-s-preserved
loop-s-preserved c =
    let l = c.loop-s in
    let one : l.s ≡ l.s - 1 + 1 = omega arith in
    let next : l.s + 1 - 1 ≡ l.s = omega arith in
    let word = c.restricted.ensures (slots_in c.args.table.now c.args.used) c.requires.2 in
    let R = restrict-goes l.invariant.1 {x = c.restricted.result} (omega (arith, one, c.loop-s-test.true, l.invariant.1.size, c.requires.0)) (rw (← one) word) in
    (omega (arith, c.loop-s-test.true), rw next (rw (← one) at R))
