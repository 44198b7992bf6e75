-- `is_name` meets its contract, test by test.
use Rattle.base.proofs.Tests.{eq-eqb, ne_eqb}
use Rattle.names.specs.NamedForm.{named_form_ok}
use Rattle.named.proofs.sent.is_name.Goals as goal

pub returns-then-e-ne-NAME : goal.returns-then-e-ne-NAME
returns-then-e-ne-NAME c = rw (ne_eqb c.if-e-ne-NAME.true)

pub returns-then-e-eq0 : goal.returns-then-e-eq0
unfolding named_form_ok
returns-then-e-eq0 c = rw (eq-eqb c.if-e-ne-NAME.false, eq-eqb c.if-e-eq0.true)

pub returns-else-e-eq0 : goal.returns-else-e-eq0
unfolding named_form_ok
returns-else-e-eq0 c = rw (eq-eqb c.if-e-ne-NAME.false, ne_eqb c.if-e-eq0.false)
