-- `second_rows` meets its contract: what is refused as the first description is refused as the second.
use mathlib.Core.Path.{◌∙◌, sym}
use Rattle.narrowest.proofs.answer.WayLaws.{second-wrong}
use Rattle.narrowest.proofs.answer.second_rows.Goals as goal

pub returns-in-Err-clause-refused : goal.returns-in-Err-clause-refused
returns-in-Err-clause-refused c =
    λ e q. second-wrong c.args.pairs.now c.args.description.now c.requires.list_read (sym c.form_rows.ensures.0 ∙ c.in-Err.is) ∙ q
