-- `mate` meets its contract: by the entry's kind, and whether its owner has a mate.
use mathlib.Core.Path.{◌∙◌, ap, sym}
use native.Mathlib.Omega.{arith}
use Prim.Native.Nat.{ℕ}
use lib.ListN.{get_or, length-map}
use Rattle.blocks.specs.declared.Entry.{Entry}
use Rattle.unfolding.specs.code.Rows.{entry_of_row}
use Rattle.narrowest.proofs.mates.MateLaws.{entry-at, mate-found, mate-lost, mate-other, mate-top, owner-before}
use Rattle.narrowest.proofs.paired.PairLaws.{found-small}
use Rattle.narrowest.proofs.mates.Joining.mate.Goals as goal
use Rattle.narrowest.proofs.mates.Joining.mate.Goals.{else-e-ne0-via-else-e-ne0, else-e-ne0-via-then-e-ne0+else-mate-eq0}

pub returns-then-e-ne-EVERY : goal.returns-then-e-ne-EVERY
returns-then-e-ne-EVERY c =
    let a = c.args in
    let h = c.requires in
    mate-other a.self.first.held a.self.second.rows.now a.mates.now a.n (c.entry_of_row-e.ensures ∙ entry-at a.self.first.held a.self.second.rows.now a.n h.0 h.1) c.if-e-ne-EVERY.true

pub bounds-mates-from : goal.bounds-mates-from
bounds-mates-from c =
    let a = c.args in
    let h = c.requires in
    let i = c.entry_of_row-e.ensures ∙ entry-at a.self.first.held a.self.second.rows.now a.n h.0 h.1 in
    omega (arith, h.2, h.1, c.from.ensures, ap (λ (e : Entry). e.owner) i, owner-before a.self.first.held a.self.second.rows.now a.n h.0 (omega (arith, h.1, length-map a.self.first.rows.now entry_of_row)))

pub returns-then-mate-eq0 : goal.returns-then-mate-eq0
returns-then-mate-eq0 c =
    let a = c.args in
    let h = c.requires in
    mate-lost a.self.first.held a.self.second.rows.now a.mates.now a.n (c.entry_of_row-e.ensures ∙ entry-at a.self.first.held a.self.second.rows.now a.n h.0 h.1) c.if-e-ne-EVERY.false c.if-e-ne0.true
    (ap (λ (x : ℕ). get_or a.mates.now x 0) (sym c.from.ensures) ∙ c.if-mate-eq0.true)

pub overflow_cast-result : goal.overflow_cast-result
overflow_cast-result c = omega (arith, found-small c.args.self.second.held _ 5 c.entry_of_row-e.result.name c.find.ensures)

pub returns : goal.returns
returns c =
    let a = c.args in
    let h = c.requires in
    let i = c.entry_of_row-e.ensures ∙ entry-at a.self.first.held a.self.second.rows.now a.n h.0 h.1 in
    let f = rw c.from.ensures at c.find.ensures in
    elim c.else-e-ne0.branch [
      | else-e-ne0-via-then-e-ne0+else-mate-eq0 w ↦ mate-found a.self.first.held a.self.second.rows.now a.mates.now a.n i c.if-e-ne-EVERY.false (rw c.from.ensures at w.if-mate-eq0.false) f
      | else-e-ne0-via-else-e-ne0 w ↦ mate-top a.self.first.held a.self.second.rows.now a.mates.now a.n i c.if-e-ne-EVERY.false w.if-e-ne0.false f
    ]
