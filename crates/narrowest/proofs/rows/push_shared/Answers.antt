-- `push_shared` meets its contract: an entry of the kind gives a row where the two places list a number.
use mathlib.Core.Path.{◌∙◌, ap, refl, sym}
use Rattle.blocks.specs.declared.Entry.{Entry}
use Rattle.narrowest.proofs.rows.CountLaws.{counted-as}
use Rattle.narrowest.proofs.rows.SharedLaws.{option-none, option_some, shared-both, shared-missing, shared-other}
use Rattle.narrowest.specs.code.Forms.{kind_in}
use Rattle.narrowest.specs.code.Places.{place_in}
use Rattle.unfolding.specs.code.Rows.{entry_of_row}
use Rattle.narrowest.proofs.rows.push_shared.Goals as goal

pub returns-then-e-number : goal.returns-then-e-number
returns-then-e-number c =
    let a = c.args in
    shared-other c.requires a.owner (kind_in a.kind) (place_in a.second) (entry_of_row a.x)
    (λ z. c.if-e-number.true (ap (λ (e : Entry). e.kind) c.entry_of_row-e.ensures ∙ z ∙ sym c.number.ensures))

pub returns-in-Some : goal.returns-in-Some
returns-in-Some c =
    let a = c.args in
    let k = kind_in a.kind in
    let x = entry_of_row a.x in
    let is = ap (λ (e : Entry). e.kind) (sym c.entry_of_row-e.ensures) ∙ c.if-e-number.false ∙ c.number.ensures in
    let h = rw c.entry_of_row-e.ensures at c.listed_near.ensures in
    counted-as (rw c.entry_of_row-e.ensures at c.push_joined.ensures) refl
    (shared-both a.owner k (place_in a.second) x is (option_some _ (sym c.in-Some.is ∙ h)))

pub returns-in-None : goal.returns-in-None
returns-in-None c =
    let a = c.args in
    let is = ap (λ (e : Entry). e.kind) (sym c.entry_of_row-e.ensures) ∙ c.if-e-number.false ∙ c.number.ensures in
    let h = rw c.entry_of_row-e.ensures at c.listed_near.ensures in
    shared-missing c.requires a.owner (kind_in a.kind) (place_in a.second) (entry_of_row a.x) is (option-none _ (sym c.in-None.is ∙ h))
