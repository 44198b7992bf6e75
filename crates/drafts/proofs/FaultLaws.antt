-- A call is refused by the first of its lines that applies.
-- Assumes nothing.
use Rattle.std.proofs.Common.{◌≡◌, suc, not, ◌&&◌, eqb, leb, [], ◌∷◌, length, length-append, arith}
use Rattle.base.proofs.Tests.{bool_cases}
use Rattle.blocks.specs.Faults.{first}
use Rattle.blocks.specs.Reading.{answer}
use Rattle.drafts.specs.declared.Call.TheVariants as call
use Rattle.drafts.specs.declared.Call.{Call}
use Rattle.drafts.specs.Draft.{Held, adding, answered, known, moved, with_entry}
use Rattle.drafts.specs.Listed.{call_faults}

pub answered-first : (d : Held) (c : Call) → answered d c ≡ answer 1 (length (moved d c).draft) (first (call_faults d c))
unfolding answered adding first
answered-first d (call.Add e) =
    let n : length (with_entry d.draft e) ≡ suc (length d.draft) = let l = length-append d.draft (e ∷ []) in omega arith in
    bool_cases (leb 1008 (length d.draft)) (λ q. rw (answered, q)) (λ q. rw (answered, q, adding, n))
answered-first d call.TakeOff = bool_cases (eqb (length d.draft) 0) (λ q. rw (answered, q)) (λ q. rw (answered, q))
answered-first d (call.Name s) =
    bool_cases (eqb s 0)
    (λ q. rw (answered, q))
    (λ q. bool_cases (not (known s d.stands) && leb 4 (length d.stands)) (λ k. rw (answered, q, k)) (λ k. rw (answered, q, k)))
answered-first d (call.GoBack s) = bool_cases (known s d.stands) (λ q. rw (answered, q)) (λ q. rw (answered, q))
answered-first d (call.Drop s) = bool_cases (known s d.stands) (λ q. rw (answered, q)) (λ q. rw (answered, q))
