-- `find` meets its contract: the entry at the place of its key, if it is there.
use mathlib.Core.Path.{◌∙◌, sym}
use native.Mathlib.Omega.{arith}
use Rattle.narrowest.proofs.form.SeekLaws.{seek-found, seek-none}
use Rattle.narrowest.proofs.form.Form.find.Goals as goal

pub returns-then-self-i : goal.returns-then-self-i
returns-then-self-i c =
    let a = c.args in
    seek-none a.self.held a.owner a.kind a.name (omega (arith, c.ranges.kind.fits)) (omega (arith, c.ranges.name.fits)) (rw c.order_key-key.ensures at c.place-i.ensures)
    (λ l. absurd (omega (arith, l, c.if-self-i.true)))

pub returns-then-row_key-key : goal.returns-then-row_key-key
returns-then-row_key-key c =
    let a = c.args in
    seek-none a.self.held a.owner a.kind a.name (omega (arith, c.ranges.kind.fits)) (omega (arith, c.ranges.name.fits)) (rw c.order_key-key.ensures at c.place-i.ensures)
    (λ l e. c.if-row_key-key.true (c.row_key.ensures ∙ e ∙ sym c.order_key-key.ensures))

pub returns : goal.returns
returns c =
    let a = c.args in
    seek-found a.self.held a.owner a.kind a.name (omega (arith, c.ranges.kind.fits)) (omega (arith, c.ranges.name.fits)) (rw c.order_key-key.ensures at c.place-i.ensures)
    c.if-self-i.false (sym c.row_key.ensures ∙ c.if-row_key-key.false ∙ c.order_key-key.ensures)
