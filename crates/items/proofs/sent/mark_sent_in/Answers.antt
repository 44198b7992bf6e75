-- `mark_sent_in` meets its contract.
use Rattle.std.proofs.Common.{◌≡◌, ◌∙◌, ap, List, [], ℕ, Ok, refl, sym, arith}
use Rattle.std.proofs.lemmas.Result.{err_from_is_err_and}
use Rattle.unfolding.proofs.BufferLaws.{sent-itself}
use Rattle.items.proofs.sent.mark_sent_in.Goals as goal

pub returns-in_err-places-clause-reading : goal.returns-in_err-places-clause-reading
returns-in_err-places-clause-reading g c =
    let p = err_from_is_err_and c.from_residual.result c.from_residual.ensures.1 in
    let e = rw c.in_err-places.was at c.read_sent.ensures.refused in
    rw (p.1, p.2) (sym e)

pub overflow_cast-result : goal.overflow_cast-result
overflow_cast-result g c =
    let p = c.in_ok-places.places in
    omega (arith, c.total.ensures, p.counted, p.few)

pub returns-clause-reading : goal.returns-clause-reading
returns-clause-reading g c =
    let p = c.in_ok-places.places in
    let a = rw c.in_ok-places.was at c.read_sent.ensures.accepted in
    rw (c.total.ensures ∙ sym p.counted) (sym a.0)

pub returns-clause-marked : goal.returns-clause-marked
returns-clause-marked g c = λ x h.
    let a = rw c.in_ok-places.was at c.read_sent.ensures.accepted in
    rw (sent-itself [] c.args.description.now refl, ← a.1) (c.mark_fitting.ensures x h)
