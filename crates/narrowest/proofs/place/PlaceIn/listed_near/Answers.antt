-- `listed_near` meets its contract: an entry that is found has its number.
use mathlib.Core.Path.{◌∙◌, ap, refl}
use native.Mathlib.Omega.{arith}
use Rattle.blocks.specs.declared.Entry.{Entry}
use Rattle.narrowest.proofs.place.ListedLaws.{listed-none, listed-within, listed_some}
use Rattle.narrowest.specs.code.Forms.{kind_in}
use Rattle.std.specs.Prelude.{Some}
use Rattle.narrowest.proofs.place.PlaceIn.listed_near.Goals as goal

pub returns-then-n-eq0 : goal.returns-then-n-eq0
returns-then-n-eq0 c =
    let a = c.args in
    listed-none a.self.form.held a.self.owner (kind_in a.kind) a.name (c.find-n.ensures ∙ rw c.number.ensures refl) c.if-n-eq0.true

pub bounds-self-n : goal.bounds-self-n
bounds-self-n c =
    let a = c.args in
    listed-within a.self.form.held a.self.owner (kind_in a.kind) a.name (c.find-n.ensures ∙ rw c.number.ensures refl) c.if-n-eq0.false

pub offset_bounds-self-n : goal.offset_bounds-self-n
offset_bounds-self-n c =
    let a = c.args in
    omega (arith, a.self.form.held.few, listed-within a.self.form.held a.self.owner (kind_in a.kind) a.name (c.find-n.ensures ∙ rw c.number.ensures refl) c.if-n-eq0.false)

pub returns : goal.returns
returns c =
    let a = c.args in
    ap (λ (e : Entry). Some e.number) c.entry_of_row.ensures
    ∙ listed_some a.self.form.held a.self.owner (kind_in a.kind) a.name (c.find-n.ensures ∙ rw c.number.ensures refl) c.if-n-eq0.false
