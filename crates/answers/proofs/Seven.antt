-- Number 7 is returned last: exactly where the list, the dictionary and all descriptions are accepted and the output is shorter than the
-- unfolded ones. The numbers that a dictionary and a description are refused with, and their inputs.
-- Assumes nothing.
use Rattle.std.proofs.Common.{◌≡◌, ℕ, ◌+◌, ◌<◌, ◌≤◌, ◌≢◌, ◌⊎◌, ◌↔◌, List, length, None, Some, Ok, Err, refl, inl, inr, ⊎_elim, arith}
use Rattle.answers.proofs.AnswerLaws.{refused-answered, same-refused}
use Rattle.answers.proofs.DictionaryOrder.{dictionary-refused, line_refused}
use Rattle.answers.proofs.Order.{comparison-refused-exactly, fit-refused-exactly, normal-refused-exactly}
use Rattle.answers.specs.Refusals.{AcceptedBy, ComparisonRefused, DictionaryRefused, FitRefused, NormalRefused}
use Rattle.answers.specs.Refusals.ComparisonRefused.{dictionary as compares-dictionary, first as compares-first, list as compares-list, second as compares-second, short as compares-short}
use Rattle.answers.specs.Refusals.DictionaryRefused.{broken, many, part}
use Rattle.answers.specs.Refusals.FitRefused.{description as judges-description, dictionary as judges-dictionary, list as judges-list, specimen as judges-specimen}
use Rattle.answers.specs.Refusals.NormalRefused.{dictionary as normal-dictionary, input as normal-input, list as normal-list, short as normal-short}
use Rattle.base.proofs.Tests.{bool_cases}
use Rattle.blocks.proofs.Refusing.Readings.{reading-cases}
use Rattle.blocks.proofs.RoundTrip.RefusalNumbers.{named-number}
use Rattle.blocks.specs.Entries.{entries_of}
use Rattle.blocks.specs.Promise.{FirstOf, NoneApplies}
use Rattle.blocks.specs.Reading.{reading_of}
use Rattle.blocks.specs.Refusals.{number_of, refused}
use Rattle.blocks.specs.declared.Cause.{Cause}
use Rattle.blocks.specs.declared.Entry.{Entry}
use Rattle.blocks.specs.declared.Schema.TheVariants.{Named}
use Rattle.clashes.proofs.Refusals as specimen
use Rattle.compare.specs.Answer as comparison
use Rattle.compare.specs.Answer.{Comparison}
use Rattle.fit.specs.Answer as fit
use Rattle.named.proofs.UnfoldedLaws.{dictionary-input}
use Rattle.named.specs.Answer.{compare_named, fit_named, normalise_named}
use Rattle.names.proofs.Legality.NamedReadings.{named-large, named-refused, named-taken}
use Rattle.names.specs.NamedReading.{named_faults, plain_of, too_large}
use Rattle.names.specs.Unfold.{unfolded_by}
use Rattle.normal.specs.Answer as normal
use Rattle.pairs.proofs.PairsRefused as list
use Rattle.pairs.specs.Pairs.{pair_faults}

-- ---- the numbers

-- 1 to 6, 13 or 14 of a description
abbrev pub LineNumber : ℕ → Type 0
LineNumber n = (n ≤ 6) ⊎ ((n ≡ 13) ⊎ (n ≡ 14))

pub line-number : (K : List (List Entry)) (s : List ℕ) {k : Cause} {p : ℕ} → FirstOf (named_faults K s) k p → LineNumber (number_of k)
line-number K s f =
    let e = line_refused K 1 s f in
    reading-cases (reading_of (Named (length K)) 1 s)
    (λ k' i' p' r.
    same-refused (λ x i q. LineNumber (number_of x)) (named-refused K 1 s r) e
    (⊎_elim (λ l. inl l) (λ l. inr (inl l)) (named-number (length K) 1 s r)))
    (λ n r. bool_cases (too_large (unfolded_by K (entries_of s)))
    (λ t. same-refused (λ x i q. LineNumber (number_of x)) (named-large K 1 s r t) e (inr (inr refl)))
    (λ t. refused-answered e (named-taken K 1 s r t)))

pub not-seven : {n : ℕ} → LineNumber n → n ≢ 7
not-seven h z = ⊎_elim (λ l. omega arith) (λ r. ⊎_elim (λ l. omega arith) (λ l. omega arith) r) h

-- 11 of the list
pub list-number : (P : List ℕ) {k : Cause} {p : ℕ} → FirstOf (pair_faults P) k p → number_of k ≢ 7
list-number P f = list.list-number P (list.pairs-refused P f)

-- of a dictionary these, and 1 and 8 of its own
pub dictionary-number : (D : List ℕ) {k : Cause} {i p : ℕ} → DictionaryRefused D k i p → number_of k ≢ 7
dictionary-number D (broken h) z = omega arith
dictionary-number D (many w h) z = omega arith
dictionary-number D (part w h r) z = not-seven (line-number _ _ r.first) z

-- [D2] input 100, and 100 + n for the n-th description
pub dictionary-inputs : (D : List ℕ) {k : Cause} {i p : ℕ} → DictionaryRefused D k i p → 100 ≤ i
dictionary-inputs D r = dictionary-input D (dictionary-refused D r)

-- ---- 7

module _ (P D d out : List ℕ) where
  normal-last : {k : Cause} {i p : ℕ} → NormalRefused P D d out k i p → number_of k ≡ 7
      → NoneApplies (pair_faults P) × AcceptedBy D d × (length out < length (plain_of D d))
  normal-last (normal-list f) z = absurd (list-number P f z)
  normal-last (normal-dictionary n r) z = absurd (dictionary-number D r z)
  normal-last (normal-input n T f) z = absurd (not-seven (line-number _ d f) z)
  normal-last (normal-short n B h) z = (n, B, h)

  -- by the number that is returned
  pub normal-seven : ((normal.returned (normalise_named P D d out)).number ≡ 7) ↔
      (NoneApplies (pair_faults P) × AcceptedBy D d × (length out < length (plain_of D d)))
  normal-seven = (
    λ e. reading-cases (normalise_named P D d out)
        (λ k i p q. let z : number_of k ≡ 7 = rw q at e in normal-last ((normal-refused-exactly P D d out).0 q) z)
        (λ n q. let z : ◌≡◌ {A = ℕ} 0 7 = rw q at e in absurd (omega arith)),
    λ h. let q = (normal-refused-exactly P D d out).1 (normal-short h.0 h.1 h.2) in rw q,
  )

-- only a refusal has number 7
seven-refused : {X : Type 0} (r : Comparison) → (comparison.returned r).number ≡ 7
    → ((k : Cause) (i p : ℕ) → r ≡ refused k i p → number_of k ≡ 7 → X) → X
seven-refused (Ok None) e f = absurd (omega (arith, e))
seven-refused (Ok (Some n)) e f = absurd (omega (arith, e))
seven-refused (Err x) e f = f x.cause x.input x.place refl e

module _ (P D c d out : List ℕ) where
  comparison-last : {k : Cause} {i p : ℕ} → ComparisonRefused P D c d out k i p → number_of k ≡ 7
      → NoneApplies (pair_faults P) × AcceptedBy D c × AcceptedBy D d × (length out < length (plain_of D c) + length (plain_of D d))
  comparison-last (compares-list f) z = absurd (list-number P f z)
  comparison-last (compares-dictionary n r) z = absurd (dictionary-number D r z)
  comparison-last (compares-first n T f) z = absurd (not-seven (line-number _ c f) z)
  comparison-last (compares-second n B f) z = absurd (not-seven (line-number _ d f) z)
  comparison-last (compares-short n B B' h) z = (n, B, B', h)

  pub comparison-seven : ((comparison.returned (compare_named P D c d out)).number ≡ 7) ↔
      (NoneApplies (pair_faults P) × AcceptedBy D c × AcceptedBy D d × (length out < length (plain_of D c) + length (plain_of D d)))
  comparison-seven = (
    λ e. seven-refused (compare_named P D c d out) e (λ k i p q z. comparison-last ((comparison-refused-exactly P D c d out).0 q) z),
    λ h. let q = (comparison-refused-exactly P D c d out).1 (compares-short h.0 h.1 h.2 h.3) in rw q,
  )

-- [F10] it writes no output
module _ (P D s d : List ℕ) where
  fit-last : {k : Cause} {i p : ℕ} → FitRefused P D s d k i p → number_of k ≢ 7
  fit-last (judges-list f) z = list-number P f z
  fit-last (judges-dictionary n r) z = dictionary-number D r z
  fit-last (judges-specimen n T f) z = specimen.reading-number P s ((specimen.refused-exactly P s).1 (inr (n, (refl, f)))) z
  fit-last (judges-description n T y f) z = not-seven (line-number _ d f) z

  pub fit-never-seven : (fit.returned (fit_named P D s d)).number ≢ 7
  fit-never-seven e =
      reading-cases (fit_named P D s d)
      (λ k i p q. let z : number_of k ≡ 7 = rw q at e in fit-last ((fit-refused-exactly P D s d).0 q) z)
      (λ b q. let z : ◌≡◌ {A = ℕ} 0 7 = rw q at e in omega arith)
