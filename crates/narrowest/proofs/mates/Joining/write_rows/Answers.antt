-- `write_rows` meets its contract: place by place, as far as there is room.
use mathlib.Core.Path.{refl}
use native.Mathlib.Omega.{arith}
use Rattle.narrowest.proofs.walk.WalkLaws.{walked-done, walked-start, walked-step}
use Rattle.narrowest.proofs.mates.Joining.write_rows.Goals as goal

pub loop-i-init : goal.loop-i-init
loop-i-init c =
    let a = c.args.self in
    let p = c.pair-pair.ensures in
    let s = rw (p.0, p.1, p.2, p.3, p.4) at c.push_place-count.ensures in
    (rw s.pushed.size (walked-start c.requires.4 a.first.held a.second.held c.requires.0 s), refl)

pub loop-i-preserved : goal.loop-i-preserved
loop-i-preserved c =
    let a = c.args.self in
    let w = c.loop-i.invariant.0 in (
      walked-step a.first.held a.second.held w c.loop-i-test.true (omega (arith, c.if-count-rows.true, w.size)) (rw w.size at c.push_below-count.ensures),
      omega (arith, c.push_below-count.auto, c.loop-i.invariant.1),
    )

pub returns-after-loop-i : goal.returns-after-loop-i
returns-after-loop-i c =
    let a = c.args.self in
    let w = c.loop-i.invariant.0 in
    rw c.push_place-count.ensures.pushed.size at (walked-done a.first.held a.second.held w c.args.rows.now (λ l. c.loop-i-test.false))
