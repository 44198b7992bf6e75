-- `keeps` meets its contract, by the mark of the slot's place and by its bound.
use Rattle.normal.proofs.emit.PlacingLaws.{kept-marked, kept-unmarked}
use Rattle.normal.proofs.settled.Slots.keeps.Goals as goal

pub returns-then-self-s-ne0 : goal.returns-then-self-s-ne0
returns-then-self-s-ne0 c =
    let s = c.args.self.now in
    kept-marked s.full.now s.table.now c.args.x c.tag_slot-s.ensures.0 c.if-self-s-ne0.true c.high_in.ensures.0

pub returns-else-self-s-ne0 : goal.returns-else-self-s-ne0
returns-else-self-s-ne0 c =
    let s = c.args.self.now in
    kept-unmarked s.full.now s.table.now c.args.x c.tag_slot-s.ensures.0 c.if-self-s-ne0.false
