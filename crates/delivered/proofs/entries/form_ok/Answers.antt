-- `form_ok` meets its contract, test by test.
use Rattle.std.proofs.Common.{◌≡◌, true, false, ltb, arith}
use Rattle.base.proofs.Tests.{eq-eqb, ge-ltb, lt-ltb, ne_eqb}
use Rattle.delivered.specs.Reading.{form_ok}
use Rattle.delivered.proofs.entries.form_ok.Goals as goal

pub returns-then-e-ne0 : goal.returns-then-e-ne0
unfolding form_ok
returns-then-e-ne0 c = simp (form_ok, ne_eqb c.if-e-ne0.true)

pub returns-then-e-eq0 : goal.returns-then-e-eq0
unfolding form_ok
returns-then-e-eq0 c =
    let none : ltb 0 c.args.e.name ≡ false = ge-ltb (omega (arith, c.if-e-eq0.true)) in
    simp (form_ok, eq-eqb c.if-e-ne0.false, none)

pub returns-then-e-eq-HAS : goal.returns-then-e-eq-HAS
unfolding form_ok
returns-then-e-eq-HAS c =
    let some : ltb 0 c.args.e.name ≡ true = lt-ltb (omega (arith, c.if-e-eq0.false)) in
    simp (form_ok, eq-eqb c.if-e-ne0.false, some, eq-eqb c.if-e-eq-HAS.true)

pub returns : goal.returns
unfolding form_ok
returns c =
    let some : ltb 0 c.args.e.name ≡ true = lt-ltb (omega (arith, c.if-e-eq0.false)) in
    simp (form_ok, eq-eqb c.if-e-ne0.false, some, ne_eqb c.if-e-eq-HAS.false)
