-- `form_ok` meets its contract, test by test.
use Rattle.std.proofs.Common.{ap, not}
use Rattle.base.proofs.Tests.{confirmed, eq-eqb, ne_eqb, refuted}
use Rattle.blocks.specs.Entries.{form_ok}
use Rattle.reading.proofs.rules.KindLaws.{kind-few}
use Rattle.reading.proofs.rules.form_ok.Goals as goal

pub returns-then-not-kind_ok : goal.returns-then-not-kind_ok
unfolding form_ok
returns-then-not-kind_ok c = simp (form_ok, refuted c.kind_ok.ensures (ap not c.if-not-kind_ok.true))

pub returns-then-e-ne0 : goal.returns-then-e-ne0
unfolding form_ok
returns-then-e-ne0 c =
    simp (form_ok, confirmed c.kind_ok.ensures (ap not c.if-not-kind_ok.false), ne_eqb c.if-e-ne0.true)

pub returns-then-not-name_ok : goal.returns-then-not-name_ok
unfolding form_ok
returns-then-not-name_ok c =
    simp (
      form_ok,
      confirmed c.kind_ok.ensures (ap not c.if-not-kind_ok.false),
      eq-eqb c.if-e-ne0.false,
      refuted c.name_ok.ensures (ap not c.if-not-name_ok.true),
    )

pub returns : goal.returns
unfolding form_ok
returns c =
    simp (
      form_ok,
      confirmed c.kind_ok.ensures (ap not c.if-not-kind_ok.false),
      eq-eqb c.if-e-ne0.false,
      confirmed c.name_ok.ensures (ap not c.if-not-name_ok.false),
    ) c.number_ok.ensures

pub number_ok-requires : goal.number_ok-requires
number_ok-requires c =
    kind-few c.args.schema _ (confirmed c.kind_ok.ensures (ap not c.if-not-kind_ok.false))
