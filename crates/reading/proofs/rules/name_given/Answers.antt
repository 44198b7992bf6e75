-- `name_given` meets its contract, test by test.
use Rattle.base.proofs.Tests.{eq-eqb, ge-ltb, lt-ltb, ne_eqb}
use Rattle.blocks.specs.Entries.{name_given}
use Rattle.reading.proofs.rules.name_given.Goals as goal

pub returns-then-e-ne-NAME : goal.returns-then-e-ne-NAME
unfolding name_given
returns-then-e-ne-NAME c = simp (name_given, ne_eqb c.if-e-ne-NAME.true)

pub returns-then-e-gt0 : goal.returns-then-e-gt0
unfolding name_given
returns-then-e-gt0 c = simp (name_given, eq-eqb c.if-e-ne-NAME.false, lt-ltb c.if-e-gt0.true)

pub returns-else-e-gt0 : goal.returns-else-e-gt0
unfolding name_given
returns-else-e-gt0 c = simp (name_given, eq-eqb c.if-e-ne-NAME.false, ge-ltb c.if-e-gt0.false)
