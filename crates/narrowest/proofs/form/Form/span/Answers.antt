-- `span` meets its contract: the entries between two places in the order.
use native.Mathlib.Omega.{arith}
use Rattle.narrowest.proofs.form.SpanLaws.{spans-between}
use Rattle.narrowest.proofs.form.Form.span.Goals as goal

pub returns : goal.returns
returns c =
    let a = c.args in
    spans-between a.self.rows.now a.owner (omega (arith, c.order_key-key.ensures)) (rw c.order_key-key.ensures at c.seek-from.ensures) c.seek-to.ensures
