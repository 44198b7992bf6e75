-- `sent_as` meets its contract: another input's refusal stays.
use Rattle.base.proofs.Tests.{eq-eqb, ne_eqb}
use Rattle.named.specs.code.Sent.{sent_as}
use Rattle.named.proofs.sent.sent_as.Goals as goal

pub returns-then-e-input : goal.returns-then-e-input
unfolding sent_as
returns-then-e-input c = rw (ne_eqb c.if-e-input.true)

pub returns : goal.returns
unfolding sent_as
returns c = rw (eq-eqb c.if-e-input.false, c.cause_at.ensures)
