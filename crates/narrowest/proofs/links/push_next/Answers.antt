-- `push_next` meets its contract: the last one again is passed.
use Rattle.narrowest.proofs.links.KnotLaws.{once-new, once-same}
use Rattle.narrowest.specs.code.Codes.{knot}
use Rattle.narrowest.specs.code.Forms.{entries_in}
use Rattle.narrowest.proofs.links.push_next.Goals as goal

pub returns-then-l-last : goal.returns-then-l-last
returns-then-l-last c =
    let p = c.args.pair in
    once-same (knot (entries_in p.sides.first.form.rows.now) (entries_in p.sides.second.form.rows.now) p.mates.now p.sides.first.owner p.sides.second.owner)
    c.args.owner c.args.last c.args.l c.requires.0 c.if-l-last.true

pub returns : goal.returns
returns c =
    let p = c.args.pair in
    rw (← once-new (knot (entries_in p.sides.first.form.rows.now) (entries_in p.sides.second.form.rows.now) p.mates.now p.sides.first.owner p.sides.second.owner)
    c.args.last c.args.l c.if-l-last.false) c.push_knot.ensures
