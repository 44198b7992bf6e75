-- Number 7 of the normal form: exactly where the list and the input are accepted and the output is shorter.
-- Assumes nothing.
use Prim.Native.Nat.{◌<◌, ℕ}
use lib.ListN.{length}
use mathlib.Core.List.{List}
use mathlib.Core.Logic.{◌↔◌, ⊎_elim}
use mathlib.Core.Path.{◌∙◌, ◌≡◌, ap, refl, sym}
use Rattle.blocks.proofs.RoundTrip.Accepting.{accepted-by-none}
use Rattle.blocks.proofs.RoundTrip.RefusalNumbers.{reading-number}
use Rattle.blocks.specs.Faults.{faults}
use Rattle.blocks.specs.Promise.{NoneApplies}
use Rattle.blocks.proofs.Refusing.Readings.{reading-cases}
use Rattle.blocks.specs.Reading.{reading_of}
use Rattle.std.specs.Prelude.{Err, Ok}
use Rattle.blocks.specs.Refusals.{refusal, refused}
use Rattle.blocks.specs.declared.Schema.TheVariants.{Description}
use Rattle.normal.proofs.AnswerLaws.{list_read, list-refused, refused_why, too_short}
use Rattle.normal.specs.Answer.{normalise_of}
use Rattle.pairs.proofs.PairsAccepted.{accepted-none, none-accepted}
use Rattle.pairs.proofs.PairsRefused.{list-number}
use Rattle.pairs.specs.Pairs.{pair_faults, pairs_reading, under}
use Rattle.blocks.specs.declared.Cause.{Cause}
use Rattle.blocks.specs.declared.Cause.TheVariants.{Room}

module _ (P d out : List ℕ) where
  -- a refusal is that of the list, of reading the input, or 7
  refused-by : {X : Type 0} {k : Cause} {i p : ℕ} → normalise_of P d out ≡ refused k i p → (pairs_reading P ≡ refused k i p → X)
      → (reading_of Description 1 d ≡ refused k i p → X)
      → ((n : ℕ) → pairs_reading P ≡ Ok n → i ≡ 0 → p ≡ 0 → NoneApplies (faults Description d) → length out < length d → X) → X
  refused-by {k = k} {i} {p} e list input short =
      reading-cases (pairs_reading P)
      (λ k' i' p' q.
      let y = list-refused P d out q in
      let g : refusal k' i' p' ≡ refusal k i p = cc in
      list (q ∙ ap Err g))
      (λ n l. ⊎_elim input (λ q. short n l q.1 q.2 q.3 q.4) (refused_why (under P) d out (sym (list_read P d out l) ∙ e)))

  -- 7 exactly if the list and the input are accepted and the output is shorter
  pub seven-exactly : (normalise_of P d out ≡ refused Room 0 0) ↔ (NoneApplies (pair_faults P) × NoneApplies (faults Description d) × (length out < length d))
  seven-exactly = (
    λ e. refused-by e
        (λ q. absurd (list-number P q refl))
        (λ q. absurd ((reading-number Description 1 d q).0 refl))
        (λ m l i p n h. (accepted-none P l, n, h)),
    λ h.
        let l = none-accepted P h.0 in
        list_read P d out l ∙ too_short (under P) d out (accepted-by-none Description 1 d h.1) h.2,
  )

  -- and no other input or place is given with it
  pub seven-places : {i p : ℕ} → normalise_of P d out ≡ refused Room i p → (i ≡ 0) × (p ≡ 0)
  seven-places e =
      refused-by e
      (λ q. absurd (list-number P q refl))
      (λ q. absurd ((reading-number Description 1 d q).0 refl))
      (λ m l i p n h. (i, p))
