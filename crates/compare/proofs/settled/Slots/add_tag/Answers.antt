-- `add_tag` meets its contract: the slot asks for the name, or its tag is added.
use native.Mathlib.Omega.{arith}
use Rattle.compare.proofs.places.RunWalks.{name-added, name-there}
use Rattle.compare.proofs.settled.Slots.add_tag.Goals as goal

pub returns-then-least_in-ne0 : goal.returns-then-least_in-ne0
returns-then-least_in-ne0 c = name-there c.args.self.now.table.now c.args.s c.least_in.ensures.0 _ _ _ c.if-least_in-ne0.true

pub returns : goal.returns
returns c =
    name-added c.args.self.now.table.now c.args.s c.least_in.ensures.0 _ _ _ c.if-least_in-ne0.false (omega (arith, c.from.ensures)) c.requires.0

pub overflow_add-order : goal.overflow_add-order
overflow_add-order c = omega (arith, c.from.ensures, c.requires.1, c.args.self.now.stood.few)
