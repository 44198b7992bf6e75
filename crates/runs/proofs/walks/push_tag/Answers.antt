-- `push_tag` meets its contract, by whether the slot says enough.
use Rattle.runs.proofs.walks.GatherLaws.{push-none, push-one}
use Rattle.runs.proofs.walks.push_tag.Goals as goal

pub returns-then-low_in-low : goal.returns-then-low_in-low
returns-then-low_in-low c =
    let a = c.args in
    push-none a.low a.x a.s a.order.now a.n c.low_in.ensures.0 c.if-low_in-low.true

pub returns : goal.returns
returns c =
    let a = c.args in
    push-one a.low a.x a.s a.order.now a.n c.low_in.ensures.0 c.if-low_in-low.false c.tag_of.ensures
