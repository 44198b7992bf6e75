-- `known_place` meets its contract.
use Rattle.std.proofs.Common.{◌∙◌, sym, arith}
use Rattle.desk.proofs.calls.known_place.Goals as goal

pub returns-then-i-from : goal.returns-then-i-from
returns-then-i-from c = sym c.place_in-i.ensures.0 ∙ c.if-i-from.true ∙ c.from.ensures

pub returns : goal.returns
returns c = (
  c.place_in-i.ensures.0,
  omega (arith, c.place_in-i.ensures.1, c.if-i-from.false, c.from.ensures),
  omega (arith, c.place_in-i.ensures.1, c.if-i-from.false, c.from.ensures, c.requires),
)
