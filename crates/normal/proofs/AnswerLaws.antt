-- The normal form's answer by the ways through it: refused, or normalised.
-- Assumes nothing.
use Prim.Native.Nat.{◌<◌, ◌≤◌, ℕ}
use lib.ListN.{length}
use mathlib.Core.List.{List, []}
use mathlib.Core.Logic.{◌⊎◌, inl, inr}
use mathlib.Core.Path.{◌∙◌, ◌≡◌, ap, sym}
use native.Mathlib.Omega.{arith}
use Rattle.base.proofs.Tests.{ge-ltb, lt-cases, lt-ltb}
use Rattle.blocks.proofs.Refusing.Readings.{reading-cases, readings-cases}
use Rattle.blocks.proofs.RoundTrip.Accepting.{accepted-by-none, none-of-accepted, refused-by-first}
use Rattle.blocks.specs.Entries.{entries_of}
use Rattle.blocks.specs.Faults.{faults}
use Rattle.blocks.specs.Promise.{FirstOf, NoneApplies}
use Rattle.blocks.specs.Reading.{reading_of}
use Rattle.std.specs.Prelude.{Err, Ok}
use Rattle.blocks.specs.Refusals.{number_of, refusal, refused}
use Rattle.blocks.specs.declared.Refusal.{Refusal}
use Rattle.blocks.specs.declared.Schema.TheVariants.{Description}
use Rattle.logic.specs.Background.{Background, standing}
use Rattle.pairs.proofs.Under.{empty-read, empty-standing}
use Rattle.meaning.specs.NormalEntries.{normal_entries}
use Rattle.normal.specs.Answer.{normalise_of, normalise_under, normalised_of, normalised_under, output_after, returned}
use Rattle.normal.specs.code.Formed.{form_reading, form_under}
use Rattle.pairs.specs.Pairs.{pairs_reading, under}
use Rattle.blocks.specs.declared.Cause.{Cause}
use Rattle.blocks.specs.declared.Cause.TheVariants.{Room}

-- the input is accepted, and the output is at least as long
pub record Ready (d out : List ℕ) : Type 0 where
  pub total : ℕ
  pub read : reading_of Description 1 d ≡ Ok total
  pub room : length d ≤ length out

module _ (b : Background) (d out : List ℕ) where
  -- ---- the ways to an answer

  -- [R25] input 1 first
  pub input-refused : {k : Cause} {i p : ℕ} → reading_of Description 1 d ≡ refused k i p → normalise_under b d out ≡ refused k i p
  unfolding normalise_under
  input-refused e = rw (normalise_under, e)

  -- [R25] 7 last
  pub too_short : {n : ℕ} → reading_of Description 1 d ≡ Ok n → length out < length d → normalise_under b d out ≡ refused Room 0 0
  unfolding normalise_under
  too_short e h = rw (normalise_under, e, lt-ltb h)

  -- the normal form is written
  pub normalised : Ready d out → normalise_under b d out ≡ Ok (length (normal_entries b (entries_of d)))
  unfolding normalise_under
  normalised r = rw (normalise_under, r.read, ge-ltb r.room)

  -- refused by reading, too short, or normalised
  pub normalise-cases : {X : Type 0} → ((k : Cause) (i p : ℕ) → reading_of Description 1 d ≡ refused k i p → X)
      → ((n : ℕ) → reading_of Description 1 d ≡ Ok n → length out < length d → X) → (Ready d out → X) → X
  normalise-cases f s g =
      reading-cases (reading_of Description 1 d) f
      (λ n q. lt-cases (length out) (length d) (λ h. s n q h) (λ h. g (record { total = n; read = q; room = h })))

  -- what was normalised was accepted, and its answer is the number of entries of its normal form
  pub normalised-ready : {k : ℕ} → normalise_under b d out ≡ Ok k → Ready d out × (length (normal_entries b (entries_of d)) ≡ k)
  normalised-ready {k} e =
      normalise-cases
      (λ j i p q. let y = input-refused q in let z : ◌≡◌ {A = ℕ} 0 1 = cc in absurd (omega arith))
      (λ n q h. let y = too_short q h in let z : ◌≡◌ {A = ℕ} 0 1 = cc in absurd (omega arith))
      (λ r. let y = normalised r in (r, cc))

  -- ---- refusals

  -- a refusal is that of reading the input, or 7 for an output that is too short
  pub refused_why : {k : Cause} {i p : ℕ} → normalise_under b d out ≡ refused k i p
      → (reading_of Description 1 d ≡ refused k i p) ⊎ ((k ≡ Room) × (i ≡ 0) × (p ≡ 0) × NoneApplies (faults Description d) × (length out < length d))
  refused_why {k} {i} {p} e =
      normalise-cases
      (λ k' i' p' q.
      let y = input-refused q in
      let g : refusal k' i' p' ≡ refusal k i p = cc in
      inl (q ∙ ap Err g))
      (λ n q h.
      let y = too_short q h in
      let g : refusal k i p ≡ refusal Room 0 0 = cc in
      inr (ap (λ (r : Refusal). r.cause) g, ap (λ (r : Refusal). r.input) g, ap (λ (r : Refusal). r.place) g, (none-of-accepted Description 1 d q).0, h))
      (λ r. let y = normalised r in let z : ◌≡◌ {A = ℕ} 0 1 = cc in absurd (omega arith))

  -- a refusal leaves the output
  pub refused-output : {k : Cause} {i p : ℕ} → normalise_under b d out ≡ refused k i p → normalised_under b d out ≡ out
  unfolding normalised_under
  refused-output e = ap (output_after b d out) e

  -- ---- the numbers of each case [K6]

  -- [R24] by the first that applies
  pub returned-refusal : {k : Cause} {p : ℕ} → FirstOf (faults Description d) k p
      → returned (normalise_under b d out) ≡ record { entries = 0; number = number_of k; input = 1; place = p }
  returned-refusal f = ap returned (input-refused (refused-by-first Description 1 d f))

  -- [R25] 7 last, [R23] at input 0
  pub returned-short : NoneApplies (faults Description d) → length out < length d
      → returned (normalise_under b d out) ≡ record { entries = 0; number = 7; input = 0; place = 0 }
  returned-short n h = ap returned (too_short (accepted-by-none Description 1 d n) h)

  -- [N15] the answer is the number of entries
  pub returned-entries : NoneApplies (faults Description d) → length d ≤ length out
      → returned (normalise_under b d out) ≡ record { entries = length (normal_entries b (entries_of d)); number = 0; input = 0; place = 0 }
  returned-entries n h =
      ap returned (normalised (record { total = length (entries_of d); read = accepted-by-none Description 1 d n; room = h }))

-- ---- under a list of pairs

module _ (P d out : List ℕ) where
  -- [R25] 11 before all else
  pub list-refused : {k : Cause} {i p : ℕ} → pairs_reading P ≡ refused k i p → normalise_of P d out ≡ refused k i p
  unfolding normalise_of
  list-refused e = rw (normalise_of, e)

  -- a list that is accepted stands for its background
  pub list_read : {n : ℕ} → pairs_reading P ≡ Ok n → normalise_of P d out ≡ normalise_under (under P) d out
  unfolding normalise_of
  list_read e = rw (normalise_of, e)

  pub list-output : {n : ℕ} → pairs_reading P ≡ Ok n → normalised_of P d out ≡ normalised_under (under P) d out
  unfolding normalised_of normalised_under
  list-output e = ap (output_after (under P) d out) (list_read e)

  -- a refusal leaves the output
  pub refused-unchanged : {k : Cause} {i p : ℕ} → normalise_of P d out ≡ refused k i p → normalised_of P d out ≡ out
  unfolding normalised_of
  refused-unchanged e = ap (output_after (under P) d out) e

  -- the list is accepted where an input is normalised
  pub normalised-list : {X : Type 0} {k : ℕ} → normalise_of P d out ≡ Ok k
      → ((n : ℕ) → pairs_reading P ≡ Ok n → normalise_under (under P) d out ≡ Ok k → X) → X
  normalised-list {k = k} e f =
      reading-cases (pairs_reading P)
      (λ j i p q. let y = list-refused q in let z : ◌≡◌ {A = ℕ} 0 1 = cc in absurd (omega arith))
      (λ n q. f n q (sym (list_read q) ∙ e))

-- [S11] an empty list is none
pub empty-list : (d out : List ℕ) → (normalise_of [] d out ≡ normalise_under standing d out) × (normalised_of [] d out ≡ normalised_under standing d out)
empty-list d out = (list_read [] d out empty-read ∙ rw empty-standing, list-output [] d out empty-read ∙ rw empty-standing)

-- ---- by the rows of the normal form

-- they are as many as the normal form has entries
pub form-read : (P d : List ℕ) {n m : ℕ} → pairs_reading P ≡ Ok n → reading_of Description 1 d ≡ Ok m
    → form_reading P d ≡ Ok (length (normal_entries (under P) (entries_of d)))
unfolding form_reading form_under
form-read P d l q = rw (form_reading, l, form_under, q)

-- where they are refused, normalising is refused for the same reason, and the output stays
pub form-refused : (P d out : List ℕ) {x : Refusal} → form_reading P d ≡ Err x → (normalise_of P d out ≡ Err x) × (normalised_of P d out ≡ out)
unfolding form_reading form_under
form-refused P d out {x} e =
    readings-cases (pairs_reading P) (reading_of Description 1 d)
    (λ k i p q.
    let g : form_reading P d ≡ refused k i p = rw (form_reading, q) in
    let r = list-refused P d out q in
    (r ∙ sym g ∙ e, refused-unchanged P d out r))
    (λ n k i p l q.
    let g : form_reading P d ≡ refused k i p = rw (form_reading, l, form_under, q) in
    let r = list_read P d out l ∙ input-refused (under P) d out q in
    (r ∙ sym g ∙ e, refused-unchanged P d out r))
    (λ n m l q.
    let g = form-read P d l q in
    let z : ◌≡◌ {A = ℕ} 0 1 = cc in
    absurd (omega arith))
