-- `push_lacks` meets its contract: one number after another.
use mathlib.Core.Path.{refl}
use native.Mathlib.Omega.{arith}
use Rattle.narrowest.proofs.lacks.NoteLaws.{apart-end, apart-next, part-done, part-more, part-start}
use Rattle.narrowest.proofs.rows.CountLaws.{counted-most}
use Rattle.narrowest.specs.code.Lacks.{lack_numbers, next_apart}
use Rattle.narrowest.proofs.lacks.push_lacks.Goals as goal

pub loop-p-init : goal.loop-p-init
loop-p-init c = part-start c.requires refl

pub push_next-k-requires : goal.push_next-k-requires
push_next-k-requires c = let p = c.loop-p.invariant.counted in omega (arith, counted-most p, p.size)

pub loop-p-preserved : goal.loop-p-preserved
loop-p-preserved c =
    let a = c.args in
    let l = c.loop-p in
    part-more (lack_numbers a.owner (next_apart l.last _)) l.invariant (apart-next a.owner l.last a.order.now l.p-index c.loop-p-test.true) c.push_next-k.ensures

pub returns : goal.returns
returns c = part-done c.loop-p.invariant (apart-end c.args.owner c.loop-p.last c.args.order.now c.loop-p.p-index c.loop-p-test.false)
