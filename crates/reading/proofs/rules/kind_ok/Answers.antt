-- `kind_ok` meets its contract, by the schema.
use Rattle.base.proofs.Tests.{eq-eqb, ge-ltb, lt-ltb, ne_eqb}
use Rattle.reading.proofs.rules.kind_ok.Goals as goal

pub returns-then-kind-gt0 : goal.returns-then-kind-gt0
returns-then-kind-gt0 c = rw (c.in-Description.is, lt-ltb c.if-kind-gt0.true)

pub returns-else-kind-gt0 : goal.returns-else-kind-gt0
returns-else-kind-gt0 c = rw (c.in-Description.is, ge-ltb c.if-kind-gt0.false)

pub returns-then-kind-eq-HAS : goal.returns-then-kind-eq-HAS
returns-then-kind-eq-HAS c = rw (c.in-Specimen.is, eq-eqb c.if-kind-eq-HAS.true)

pub returns-else-kind-eq-HAS : goal.returns-else-kind-eq-HAS
returns-else-kind-eq-HAS c = rw (c.in-Specimen.is, ne_eqb c.if-kind-eq-HAS.false)

pub returns-in-Named : goal.returns-in-Named
returns-in-Named c = rw c.in-Named.is c.named_kind.ensures
