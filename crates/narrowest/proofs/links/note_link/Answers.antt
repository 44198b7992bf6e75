-- `note_link` meets its contract: the link of an entry that leads to a place.
use Prim.Native.Nat.{ℕ}
use mathlib.Core.Bool.{not}
use mathlib.Core.List.{[], ◌∷◌}
use mathlib.Core.Path.{◌∙◌, ap, refl, sym}
use Rattle.base.proofs.Tests.{confirmed, refuted}
use Rattle.narrowest.proofs.links.NoteLaws.{link-empty, link-listed, link-none}
use Rattle.narrowest.proofs.rows.CountLaws.{counted-as}
use Rattle.narrowest.specs.code.Forms.{entries_in}
use Rattle.narrowest.proofs.links.note_link.Goals as goal

pub returns-then-not-leads : goal.returns-then-not-leads
returns-then-not-leads c =
    let p = c.args.pair in
    link-none (entries_in p.sides.first.form.rows.now) (entries_in p.sides.second.form.rows.now) p.mates.now p.sides.first.owner p.sides.second.owner
    c.entry_of_row-e.ensures c.requires (refuted c.leads.ensures (ap not c.if-not-leads.true))

pub returns-then-below-eq0 : goal.returns-then-below-eq0
returns-then-below-eq0 c =
    let p = c.args.pair in
    link-empty (entries_in p.sides.first.form.rows.now) (entries_in p.sides.second.form.rows.now) p.mates.now p.sides.first.owner p.sides.second.owner
    c.entry_of_row-e.ensures c.requires (confirmed c.leads.ensures (ap not c.if-not-leads.false)) (sym c.below.ensures ∙ c.if-below-eq0.true)

pub returns : goal.returns
returns c =
    let p = c.args.pair in
    counted-as c.push.ensures refl
    (ap (λ (y : ℕ). y ∷ []) c.from.ensures
    ∙ link-listed (entries_in p.sides.first.form.rows.now) (entries_in p.sides.second.form.rows.now) p.mates.now p.sides.first.owner p.sides.second.owner
    c.entry_of_row-e.ensures (confirmed c.leads.ensures (ap not c.if-not-leads.false)) (λ q. c.if-below-eq0.false (c.below.ensures ∙ q)))
