-- `note_entry` meets its contract, by the entry's kind.
use mathlib.Core.Path.{◌∙◌, ap, refl, sym}
use Rattle.blocks.specs.declared.Entry.{Entry}
use Rattle.narrowest.proofs.lacks.NoteLaws.{entry-has, entry-lacks, entry-other}
use Rattle.narrowest.proofs.rows.CountLaws.{counted-as}
use Rattle.narrowest.specs.code.Places.{place_in}
use Rattle.unfolding.specs.code.Rows.{entry_of_row}
use Rattle.narrowest.proofs.lacks.note_entry.Goals as goal

pub returns-then-e-eq-LACKS : goal.returns-then-e-eq-LACKS
returns-then-e-eq-LACKS c =
    let a = c.args in
    let x = entry_of_row a.x in
    let is = ap (λ (e : Entry). e.kind) (sym c.entry_of_row-e.ensures) ∙ c.if-e-eq-LACKS.true in
    counted-as (rw c.entry_of_row-e.ensures at c.note_lack.ensures) refl
    (entry-lacks a.exclusions.pairs.now (place_in a.sides.first) (place_in a.sides.second) x is)

pub returns-then-e-eq-HAS : goal.returns-then-e-eq-HAS
returns-then-e-eq-HAS c =
    let a = c.args in
    let x = entry_of_row a.x in
    let is = ap (λ (e : Entry). e.kind) (sym c.entry_of_row-e.ensures) ∙ c.if-e-eq-HAS.true in
    counted-as (rw c.entry_of_row-e.ensures at c.note_partners.ensures) refl
    (entry-has a.exclusions.pairs.now (place_in a.sides.first) (place_in a.sides.second) x is)

pub returns : goal.returns
returns c =
    let a = c.args in
    let e = ap (λ (e : Entry). e.kind) c.entry_of_row-e.ensures in
    entry-other a.exclusions.pairs.now (place_in a.sides.first) (place_in a.sides.second) (entry_of_row a.x) c.requires
    (λ z. c.if-e-eq-LACKS.false (e ∙ z)) (λ z. c.if-e-eq-HAS.false (e ∙ z))
