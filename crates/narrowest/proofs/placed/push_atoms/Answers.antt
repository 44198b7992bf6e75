-- `push_atoms` meets its contract: by how the place stands.
use mathlib.Core.List.{List}
use mathlib.Core.Path.{◌∙◌, ap, refl, sym}
use Rattle.logic.specs.Place.{Atom}
use Rattle.narrowest.proofs.placed.PlacedLaws.{atoms-both, atoms-first, atoms-second}
use Rattle.narrowest.proofs.rows.CountLaws.{counted-as}
use Rattle.narrowest.specs.code.Codes.{whole_atoms}
use Rattle.narrowest.specs.code.Forms.{entries_in}
use Rattle.narrowest.specs.code.Pushes.{leaf_numbers}
use Rattle.std.specs.List.{flat_map}
use Rattle.narrowest.proofs.placed.push_atoms.Goals as goal

pub returns-then-first_alone : goal.returns-then-first_alone
returns-then-first_alone c =
    let a = c.args in
    let p = a.pair.sides in
    counted-as c.push_whole.ensures refl
    (ap (λ (z : List Atom). leaf_numbers a.owner z) (ap (flat_map whole_atoms) c.requires.2
    ∙ atoms-first a.exclusions.pairs.now (entries_in p.first.form.rows.now) (entries_in p.second.form.rows.now) p.first.owner p.second.owner (sym c.first_alone.ensures ∙ c.if-first_alone.true)))

pub returns-then-second_alone : goal.returns-then-second_alone
returns-then-second_alone c =
    let a = c.args in
    let p = a.pair.sides in
    counted-as c.push_whole-then-second_alone.ensures refl
    (ap (λ (z : List Atom). leaf_numbers a.owner z) (ap (flat_map whole_atoms) c.requires.2
    ∙ atoms-second a.exclusions.pairs.now (entries_in p.first.form.rows.now) (entries_in p.second.form.rows.now) p.first.owner p.second.owner (sym c.first_alone.ensures ∙ c.if-first_alone.false)
    (sym c.second_alone.ensures ∙ c.if-second_alone.true)))

pub returns : goal.returns
returns c =
    let a = c.args in
    let p = a.pair.sides in
    counted-as c.push_joined_atoms.ensures refl
    (ap (λ (z : List Atom). leaf_numbers a.owner z)
    (atoms-both a.exclusions.pairs.now (entries_in p.first.form.rows.now) (entries_in p.second.form.rows.now) p.first.owner p.second.owner (sym c.first_alone.ensures ∙ c.if-first_alone.false)
    (sym c.second_alone.ensures ∙ c.if-second_alone.false)))
