-- `first_refusal` meets its contract, number by number.
use Rattle.std.proofs.Common.{ap, not}
use Rattle.base.proofs.Tests.{confirmed, eq-eqb, ge-ltb, lt-ltb, ne_eqb, refuted}
use Rattle.blocks.specs.code.ReadingSteps.{entry_refusal}
use Rattle.reading.proofs.rules.first_refusal.Goals as goal

pub returns-then-not-form_ok : goal.returns-then-not-form_ok
unfolding entry_refusal
returns-then-not-form_ok c = simp (entry_refusal, refuted c.form_ok.ensures (ap not c.if-not-form_ok.true))

pub returns-then-not-names_ok : goal.returns-then-not-names_ok
unfolding entry_refusal
returns-then-not-names_ok c =
    simp (
      entry_refusal,
      confirmed c.form_ok.ensures (ap not c.if-not-form_ok.false),
      refuted c.names_ok.ensures (ap not c.if-not-names_ok.true),
    )

-- what the two tests of an entry by itself have shown
pub returns-then-l-eq0 : goal.returns-then-l-eq0
unfolding entry_refusal
returns-then-l-eq0 c =
    simp (
      entry_refusal,
      confirmed c.form_ok.ensures (ap not c.if-not-form_ok.false),
      confirmed c.names_ok.ensures (ap not c.if-not-names_ok.false),
      eq-eqb c.if-l-eq0.true,
    )

pub returns-then-l-gt33 : goal.returns-then-l-gt33
unfolding entry_refusal
returns-then-l-gt33 c =
    simp (
      entry_refusal,
      confirmed c.form_ok.ensures (ap not c.if-not-form_ok.false),
      confirmed c.names_ok.ensures (ap not c.if-not-names_ok.false),
      ne_eqb c.if-l-eq0.false,
      lt-ltb c.if-l-gt33.true,
    )

pub returns : goal.returns
unfolding entry_refusal
returns c =
    simp (
      entry_refusal,
      confirmed c.form_ok.ensures (ap not c.if-not-form_ok.false),
      confirmed c.names_ok.ensures (ap not c.if-not-names_ok.false),
      ne_eqb c.if-l-eq0.false,
      ge-ltb c.if-l-gt33.false,
    )
