-- `push_joined` meets its contract: a row where there is a number.
use mathlib.Core.Path.{◌∙◌, refl, sym}
use Rattle.narrowest.proofs.rows.CountLaws.{counted-as}
use Rattle.narrowest.proofs.rows.SharedLaws.{option-none, option_some, pushed-none, pushed-one}
use Rattle.narrowest.specs.code.Forms.{kind_in}
use Rattle.narrowest.proofs.rows.push_joined.Goals as goal

pub returns-in-Some : goal.returns-in-Some
returns-in-Some c =
    let a = c.args in
    counted-as c.push_leaf.ensures refl
    (pushed-one a.owner (kind_in a.kind) a.e.name c.in-Some.number (option_some _ (sym c.in-Some.is ∙ c.joined_number.ensures)))

pub returns-in-None : goal.returns-in-None
returns-in-None c =
    let a = c.args in
    pushed-none c.requires a.owner (kind_in a.kind) a.e.name (option-none _ (sym c.in-None.is ∙ c.joined_number.ensures))
