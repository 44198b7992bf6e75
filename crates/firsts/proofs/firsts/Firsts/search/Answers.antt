-- `search` meets its contract: where the search for a cell ends, there is the number of the key, if it has one.
use Rattle.std.proofs.Common.{◌∙◌, sym, arith, ap}
use Rattle.base.proofs.KeyLaws.{some-unless}
use Rattle.base.specs.Keys.{unless_zero}
use Rattle.firsts.proofs.HeldLaws.{held-none, held-number}
use Rattle.firsts.proofs.firsts.Firsts.search.Goals as goal

pub returns-then-room-eq0 : goal.returns-then-room-eq0
returns-then-room-eq0 g c = (held-none c.self.invariant (sym c.room.ensures ∙ c.if-room-eq0.true) (sym c.self.view_is) c.args.key).0

pub returns : goal.returns
returns g c =
    let K = c.self.invariant.sound (omega (arith, c.room.ensures, c.if-room-eq0.false)) in
    c.then_some.ensures ∙ some-unless c.from-n.result
    ∙ ap unless_zero (held-number K c.cell_for-c.ensures.0 c.from-n.ensures (sym c.self.view_is))
