-- `result_rows` meets its contract: by which forms nothing fits.
use mathlib.Core.Path.{◌∙◌, refl, sym}
use Rattle.narrowest.proofs.answer.ResultLaws.{first-bottom, joinable, neither-bottom, second-bottom}
use Rattle.narrowest.proofs.rows.CountLaws.{counted-as}
use Rattle.narrowest.proofs.answer.result_rows.Goals as goal

pub returns-then-impossible : goal.returns-then-impossible
returns-then-impossible c = counted-as c.copy_rows.ensures refl (first-bottom c.requires.2 c.requires.3 (sym c.impossible.ensures ∙ c.if-impossible.true))

pub returns-then-impossible-2 : goal.returns-then-impossible-2
returns-then-impossible-2 c =
    counted-as c.copy_rows-then-impossible-2.ensures refl
    (second-bottom c.requires.2 c.requires.3 (sym c.impossible.ensures ∙ c.if-impossible.false) (sym c.impossible-2.ensures ∙ c.if-impossible-2.true))

pub joined_rows-requires : goal.joined_rows-requires
joined_rows-requires c =
    let h = c.requires in
    (joinable h.2 h.3 h.0 h.1 (sym c.impossible.ensures ∙ c.if-impossible.false) (sym c.impossible-2.ensures ∙ c.if-impossible-2.false), h.4)

pub returns : goal.returns
returns c =
    counted-as c.joined_rows.ensures refl
    (neither-bottom c.requires.2 c.requires.3 (sym c.impossible.ensures ∙ c.if-impossible.false) (sym c.impossible-2.ensures ∙ c.if-impossible-2.false))
