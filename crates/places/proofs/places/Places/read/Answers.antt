-- `read` meets its contract: what is lent has the places of the description that is accepted.
use Rattle.std.proofs.Common.{◌∙◌, ◌+◌, ap, sym, arith}
use Rattle.places.proofs.PlaceLaws.{chained-front, numbered-front}
use Rattle.places.proofs.ReadLaws.{accepted, room-fits}
use Rattle.places.proofs.places.Places.read.Goals as goal

pub invariant_of-result : goal.invariant_of-result
invariant_of-result g c =
    let e = sym c.read.ensures.reading ∙ c.in_ok-total.was in
    let r = room-fits _ _ e in
    let a = accepted _ _ r.0 in
    let F = rw e at c.read.ensures.accepted in
    record { counted = a.counted; few = a.few; legal = a.legal; numbered = numbered-front _ a.legal F _ (ap (λ x. x + 1) a.counted); chained = chained-front _ a.legal F _ (ap (λ x. x + 1) a.counted) }
