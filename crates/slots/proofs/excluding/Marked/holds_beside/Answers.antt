-- `holds_beside` meets its contract, kind by kind.
use mathlib.Core.Path.{◌∙◌, ap}
use Rattle.base.proofs.Tests.{ne_eqb}
use Rattle.logic.specs.Background.{standing}
use Rattle.logic.specs.Normal.{at_most}
use Rattle.passes.specs.code.Restrict.{excluded_at}
use Rattle.slots.specs.code.States.{beside_bounds}
use Rattle.slots.proofs.excluding.Marked.holds_beside.Goals as goal

pub returns-in-2 : goal.returns-in-2
unfolding beside_bounds
returns-in-2 c = λ ss M. rw (beside_bounds, c.in-2.is) (c.excluded.ensures ss M ∙ ap (excluded_at _ ss _) c.property.ensures)

pub returns-in-4 : goal.returns-in-4
unfolding beside_bounds
returns-in-4 c = λ ss M. rw (beside_bounds, c.in-4.is) (c.always.ensures ∙ ap (λ l. at_most c.args.e.number (standing.cap l)) c.link.ensures)

pub returns-in_default : goal.returns-in_default
unfolding beside_bounds
returns-in_default c = λ ss M. let z = c.in_default.in_default-own.rest in rw (beside_bounds, ne_eqb z.0.1, ne_eqb z.1)
