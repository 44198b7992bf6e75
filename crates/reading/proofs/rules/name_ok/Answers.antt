-- `name_ok` meets its contract, test by test.
use lib.Dec.{eqb}
use mathlib.Core.Bool.{false}
use mathlib.Core.Path.{◌≡◌}
use native.Mathlib.Omega.{arith}
use Rattle.base.proofs.Tests.{bool_cases, eq-eqb, ge-ltb, lt-ltb, ne_eqb, tests}
use Rattle.blocks.specs.Entries.{name_ok}
use Rattle.reading.proofs.rules.name_ok.Goals as goal

pub returns-then-name-gt0 : goal.returns-then-name-gt0
unfolding name_ok
returns-then-name-gt0 c =
    let a = c.args in
    let z : eqb a.name 0 ≡ false = omega (tests, c.if-name-gt0.true) in
    rw (name_ok, z, lt-ltb c.if-name-gt0.true) (bool_cases (eqb a.kind 6) (λ y. rw y) (λ y. rw y))

pub returns-then-kind-eq-NOTHING : goal.returns-then-kind-eq-NOTHING
unfolding name_ok
returns-then-kind-eq-NOTHING c =
    let z : c.args.name ≡ 0 = omega (arith, c.if-name-gt0.false) in
    rw (name_ok, eq-eqb c.if-kind-eq-NOTHING.true, z)

pub returns-else-kind-eq-NOTHING : goal.returns-else-kind-eq-NOTHING
unfolding name_ok
returns-else-kind-eq-NOTHING c = rw (name_ok, ne_eqb c.if-kind-eq-NOTHING.false, ge-ltb c.if-name-gt0.false)
