-- `weight_of` meets its contract, by the schema.
use mathlib.Core.Logic.{⊎_elim}
use Rattle.reading.proofs.rules.WeightLaws.{described-tells, grouped-tells, named-tells}
use Rattle.reading.proofs.rules.weight_of.Goals as goal

pub returns-in-Description : goal.returns-in-Description
returns-in-Description c =
    ⊎_elim (λ e. rw e (described-tells _ c.described_weight.ensures)) (λ e. rw e.1 (named-tells 0 c.args.kind c.described_weight.ensures)) c.in-Description.is

pub returns-in-Specimen : goal.returns-in-Specimen
returns-in-Specimen c = rw c.in-Specimen.is (grouped-tells _ c.grouped_weight.ensures)
