-- `push_knots` meets its contract: one link after another.
use mathlib.Core.List.{map}
use mathlib.Core.Path.{refl}
use native.Mathlib.Omega.{arith}
use Rattle.narrowest.proofs.links.KnotLaws.{knots-done, knots-more, knots-start, once-end, once-next}
use Rattle.narrowest.proofs.rows.CountLaws.{counted-most}
use Rattle.narrowest.specs.code.Codes.{knot}
use Rattle.narrowest.specs.code.Forms.{entries_in}
use Rattle.narrowest.specs.code.Lacks.{next_apart}
use Rattle.narrowest.proofs.links.push_knots.Goals as goal

pub loop-l-init : goal.loop-l-init
loop-l-init c = knots-start c.args.owner c.requires.0 refl

pub push_next-k-requires : goal.push_next-k-requires
push_next-k-requires c =
    let p = c.loop-l.invariant.knotted in
    (omega (arith, counted-most p.pushed, p.pushed.size), omega (arith, p.pushed.size, p.wide, c.requires.1))

pub loop-l-preserved : goal.loop-l-preserved
loop-l-preserved c =
    let p = c.args.pair in
    let l = c.loop-l in
    let f = knot (entries_in p.sides.first.form.rows.now) (entries_in p.sides.second.form.rows.now) p.mates.now p.sides.first.owner p.sides.second.owner in
    knots-more (map f (next_apart l.last _)) l.invariant (once-next f l.last c.args.order.now l.l-index c.loop-l-test.true) c.push_next-k.ensures

pub returns : goal.returns
returns c =
    let p = c.args.pair in
    let f = knot (entries_in p.sides.first.form.rows.now) (entries_in p.sides.second.form.rows.now) p.mates.now p.sides.first.owner p.sides.second.owner in
    knots-done c.loop-l.invariant (once-end f c.loop-l.last c.args.order.now c.loop-l.l-index c.loop-l-test.false)
