-- The order of refusals: each call that takes a dictionary refuses exactly by the first row that applies, and answers where none does.
-- Assumes nothing.
use Rattle.std.proofs.Common.{◌≡◌, ℕ, ◌+◌, ◌≤◌, ◌↔◌, List, length, Ok, sym, ◌∙◌}
use Rattle.answers.proofs.Accepted.{admitted, plain-read}
use Rattle.answers.proofs.AnswerLaws.{refused-answered, same-refused}
use Rattle.answers.proofs.DictionaryOrder.{accepted-dictionary, accepted-none, dictionary-accepted, dictionary-cases, dictionary-refused, line_refused, none-accepted, refused-line}
use Rattle.answers.proofs.Unfolded.{comparison-plain, fit-plain, normal-plain}
use Rattle.answers.specs.Promise.{Admitted}
use Rattle.answers.specs.Refusals.{AcceptedBy, ComparisonRefused, DictionaryRefused, DictionaryTaken, FitRefused, NormalRefused}
use Rattle.answers.specs.Refusals.ComparisonRefused.{dictionary as compares-dictionary, first as compares-first, list as compares-list, second as compares-second, short as compares-short}
use Rattle.answers.specs.Refusals.FitRefused.{description as judges-description, dictionary as judges-dictionary, list as judges-list, specimen as judges-specimen}
use Rattle.answers.specs.Refusals.NormalRefused.{dictionary as normal-dictionary, input as normal-input, list as normal-list, short as normal-short}
use Rattle.base.proofs.Tests.{eq-cases, lt-cases}
use Rattle.blocks.proofs.Refusing.FirstFault.{clean-none, first_found, found_first, none-clean}
use Rattle.blocks.proofs.Refusing.Readings.{accepted-finding, reading-cases, refused-finding}
use Rattle.blocks.specs.Entries.{entries_of}
use Rattle.blocks.specs.Faults.{first}
use Rattle.blocks.specs.Frame.{plain, total_in}
use Rattle.blocks.specs.Promise.{FirstOf, NoneApplies}
use Rattle.blocks.specs.Reading.{answer}
use Rattle.blocks.specs.Refusals.{refused}
use Rattle.blocks.specs.declared.Cause.{Cause}
use Rattle.blocks.specs.declared.Cause.TheVariants.{Room}
use Rattle.blocks.specs.declared.Entry.{Entry}
use Rattle.clashes.specs.Clash.{specimen_faults, specimen_reading}
use Rattle.compare.proofs.AnswerLaws as compare
use Rattle.compare.proofs.PromiseKept as written
use Rattle.compare.specs.Answer.{verdict}
use Rattle.fit.specs.Answer.{fit_of, top_fits}
use Rattle.meaning.specs.Failing.{failing}
use Rattle.meaning.specs.NormalEntries.{normal_entries}
use Rattle.named.specs.Answer.{compare_named, fit_named, normalise_named, normalised_named, output_named}
use Rattle.names.proofs.Legality.AcceptedReadings.{both-taken}
use Rattle.names.specs.NamedReading.{dictionary_of, named_faults, named_reading, named_unfolding, plain_of, unfolding_of}
use Rattle.names.specs.Unfold.{unfolded_by}
use Rattle.normal.proofs.AnswerLaws as normal
use Rattle.pairs.proofs.PairsAccepted as list
use Rattle.pairs.proofs.PairsRefused.{first-of-pairs, pairs-refused}
use Rattle.pairs.specs.Pairs.{pair_faults, pairs_reading, under}

-- ---- the list

pub list_cases : (P : List ℕ) {X : Type 0} → ((k : Cause) (p : ℕ) → FirstOf (pair_faults P) k p → X) → (NoneApplies (pair_faults P) → X) → X
list_cases P f g = reading-cases (pairs_reading P) (λ k i p e. f k p (first-of-pairs P e).1.1) (λ n e. g (list.accepted-none P e))

-- ---- a dictionary and a description

module _ (D : List ℕ) (i : ℕ) (s : List ℕ) where
  -- [R25] the dictionary before the inputs
  pub early : {k : Cause} {j p : ℕ} → DictionaryRefused D k j p → unfolding_of D i s ≡ refused k j p
  unfolding unfolding_of
  early r = let e = dictionary-refused D r in rw e

  pub late : DictionaryTaken D → {k : Cause} {p : ℕ} → FirstOf (named_faults (dictionary_of D) s) k p → unfolding_of D i s ≡ refused k i p
  unfolding unfolding_of named_unfolding
  late T f = let e = dictionary-accepted D T in let r = line_refused (dictionary_of D) i s f in rw (e, r)

  pub line-cases : {X : Type 0} → ((k : Cause) (p : ℕ) → FirstOf (named_faults (dictionary_of D) s) k p → X)
      → (NoneApplies (named_faults (dictionary_of D) s) → X) → X
  line-cases f g =
      reading-cases (named_reading (dictionary_of D) i s)
      (λ k j p e. f k p (refused-line (dictionary_of D) i s e).1)
      (λ n e. g (accepted-none (dictionary_of D) i s e))

module _ (D s : List ℕ) where
  -- accepted by the lines is accepted by reading
  pub by_lines : AcceptedBy D s → Admitted D s
  unfolding unfolding_of named_unfolding
  by_lines B =
      let e = dictionary-accepted D B.dictionary in
      let r = none-accepted (dictionary_of D) 1 s B.description in
      admitted D 1 s {n = length (unfolded_by (dictionary_of D) (entries_of s))} (rw (e, r))

  pub by-reading : Admitted D s → AcceptedBy D s
  by-reading A =
      both-taken D 1 s (A.read 1)
      (λ m k q w. record { dictionary = accepted-dictionary D q; description = accepted-none (dictionary_of D) 1 s w })

  pub admitted-exactly : Admitted D s ↔ AcceptedBy D s
  admitted-exactly = (by-reading, by_lines)

-- ---- the normal form

module _ (P D d out : List ℕ) where
  -- a refusal, and the output as it was [R21]
  pub normal-refuses : {k : Cause} {i p : ℕ} → NormalRefused P D d out k i p
      → (normalise_named P D d out ≡ refused k i p) × (normalised_named P D d out ≡ out)
  unfolding normalise_named normalised_named
  normal-refuses (normal-list f) = let e = pairs-refused P f in (rw e, rw e)
  normal-refuses (normal-dictionary n r) = let e = list.none-accepted P n in let u = early D 1 d r in (rw (e, u), rw (e, u))
  normal-refuses (normal-input n T f) = let e = list.none-accepted P n in let u = late D 1 d T f in (rw (e, u), rw (e, u))
  normal-refuses (normal-short n B h) =
      let A = by_lines D d B in
      let same = normal-plain P D d out A in
      let seven = normal.list_read P (plain_of D d) out (list.none-accepted P n)
      ∙ normal.too_short (under P) (plain_of D d) out (plain-read D d A 1) h in
      (same.0 ∙ seven, same.1 ∙ normal.refused-unchanged P (plain_of D d) out seven)

  -- otherwise it answers: so many entries
  pub normal-answers : NoneApplies (pair_faults P) → AcceptedBy D d → length (plain_of D d) ≤ length out
      → normalise_named P D d out ≡ Ok (length (normal_entries (under P) (entries_of (plain_of D d))))
  normal-answers n B h =
      let A = by_lines D d B in
      (normal-plain P D d out A).0 ∙ normal.list_read P (plain_of D d) out (list.none-accepted P n)
      ∙ normal.normalised (under P) (plain_of D d) out (record { total = A.entries; read = plain-read D d A 1; room = h })

  pub normal-cases : {X : Type 0} → ((k : Cause) (i p : ℕ) → NormalRefused P D d out k i p → X)
      → (NoneApplies (pair_faults P) → AcceptedBy D d → length (plain_of D d) ≤ length out → X) → X
  normal-cases f g =
      list_cases P
      (λ k p r. f k 0 p (normal-list r))
      (λ n. dictionary-cases D
      (λ k i p r. f k i p (normal-dictionary n r))
      (λ T. line-cases D 1 d
      (λ k p r. f k 1 p (normal-input n T r))
      (λ z.
      let B : AcceptedBy D d = record { dictionary = T; description = z } in
      lt-cases (length out) (length (plain_of D d)) (λ h. f Room 0 0 (normal-short n B h)) (λ h. g n B h))))

  -- [R25] 11, the dictionary, input 1, then 7: exactly by the first that applies
  pub normal-refused-exactly : {k : Cause} {i p : ℕ} → (normalise_named P D d out ≡ refused k i p) ↔ NormalRefused P D d out k i p
  normal-refused-exactly = (
    λ e. normal-cases
        (λ k' i' p' r. same-refused (NormalRefused P D d out) (normal-refuses r).0 e r)
        (λ n B h. refused-answered e (normal-answers n B h)),
    λ r. (normal-refuses r).0,
  )

-- ---- the comparison

module _ (P D c d out : List ℕ) where
  pub comparison-refuses : {k : Cause} {i p : ℕ} → ComparisonRefused P D c d out k i p
      → (compare_named P D c d out ≡ refused k i p) × (output_named P D c d out ≡ out)
  unfolding compare_named output_named
  comparison-refuses (compares-list f) = let e = pairs-refused P f in (rw e, rw e)
  comparison-refuses (compares-dictionary n r) = let e = list.none-accepted P n in let u = early D 1 c r in (rw (e, u), rw (e, u))
  comparison-refuses (compares-first n T f) = let e = list.none-accepted P n in let u = late D 1 c T f in (rw (e, u), rw (e, u))
  comparison-refuses (compares-second n B f) =
      let e = list.none-accepted P n in
      let u = (by_lines D c B).read 1 in
      let v = late D 2 d B.dictionary f in
      (rw (e, u, v), rw (e, u, v))
  comparison-refuses (compares-short n B B' h) =
      let C = by_lines D c B in
      let A = by_lines D d B' in
      let same = comparison-plain P D c d out C A in
      let seven = compare.list_read P (plain_of D c) (plain_of D d) out (list.none-accepted P n)
      ∙ compare.too_short (under P) (plain_of D c) (plain_of D d) out (plain-read D c C 1) (plain-read D d A 2) h in
      (same.0 ∙ seven, same.1 ∙ written.refused-unchanged P (plain_of D c) (plain_of D d) out seven)

  -- otherwise it answers: the verdict on the unfolded entries
  pub comparison-answers : NoneApplies (pair_faults P) → AcceptedBy D c → AcceptedBy D d → length (plain_of D c) + length (plain_of D d) ≤ length out
      → compare_named P D c d out ≡ verdict (under P) (entries_of (plain_of D c)) (entries_of (plain_of D d))
  comparison-answers n B B' h =
      let C = by_lines D c B in
      let A = by_lines D d B' in
      (comparison-plain P D c d out C A).0 ∙ compare.list_read P (plain_of D c) (plain_of D d) out (list.none-accepted P n)
      ∙ compare.compared (under P) (plain_of D c) (plain_of D d) out
      (record { first = C.entries; second = A.entries; first_read = plain-read D c C 1; second-read = plain-read D d A 2; room = h })

  pub comparison-cases : {X : Type 0} → ((k : Cause) (i p : ℕ) → ComparisonRefused P D c d out k i p → X)
      → (NoneApplies (pair_faults P) → AcceptedBy D c → AcceptedBy D d → length (plain_of D c) + length (plain_of D d) ≤ length out → X) → X
  comparison-cases f g =
      list_cases P
      (λ k p r. f k 0 p (compares-list r))
      (λ n. dictionary-cases D
      (λ k i p r. f k i p (compares-dictionary n r))
      (λ T. line-cases D 1 c
      (λ k p r. f k 1 p (compares-first n T r))
      (λ z.
      let B : AcceptedBy D c = record { dictionary = T; description = z } in
      line-cases D 2 d
      (λ k p r. f k 2 p (compares-second n B r))
      (λ z'.
      let B' : AcceptedBy D d = record { dictionary = T; description = z' } in
      lt-cases (length out) (length (plain_of D c) + length (plain_of D d)) (λ h. f Room 0 0 (compares-short n B B' h)) (λ h. g n B B' h)))))

  -- [R25] 11, the dictionary, input 1, input 2, then 7
  pub comparison-refused-exactly : {k : Cause} {i p : ℕ} → (compare_named P D c d out ≡ refused k i p) ↔ ComparisonRefused P D c d out k i p
  comparison-refused-exactly = (
    λ e. comparison-cases
        (λ k' i' p' r. same-refused (ComparisonRefused P D c d out) (comparison-refuses r).0 e r)
        (λ n B B' h. absurd (no-refusal (entries_of (plain_of D c)) (entries_of (plain_of D d)) (sym (comparison-answers n B B' h) ∙ e))),
    λ r. (comparison-refuses r).0,
  )
    where
      no-refusal : (x y : List Entry) {k : Cause} {i p : ℕ} → verdict (under P) x y ≡ refused k i p → ⊥
      no-refusal x y e =
          eq-cases (failing (under P) x y) 0
          (λ z. refused-answered e (compare.verdict-contained (under P) x y z))
          (λ z. refused-answered e (compare.verdict-not (under P) x y z))

-- ---- the fit answer

module _ (P D s d : List ℕ) where
  -- a specimen by its lines, under a list that is accepted
  specimen-refused : NoneApplies (pair_faults P) → {k : Cause} {p : ℕ} → FirstOf (specimen_faults P s) k p → specimen_reading P s ≡ refused k 1 p
  unfolding specimen_reading
  specimen-refused n {k} {p} f = let e = list.none-accepted P n in let q = first_found (specimen_faults P s) k p f in rw (e, q)

  pub specimen-accepted : NoneApplies (pair_faults P) → NoneApplies (specimen_faults P s) → specimen_reading P s ≡ Ok (total_in plain s)
  unfolding specimen_reading
  specimen-accepted n z = let e = list.none-accepted P n in let q = none-clean (specimen_faults P s) z in rw (e, q)

  specimen-cases : {X : Type 0} → ((k : Cause) (p : ℕ) → FirstOf (specimen_faults P s) k p → X) → (NoneApplies (specimen_faults P s) → X) → X
  specimen-cases f g =
      let total = total_in plain s in
      let found = first (specimen_faults P s) in
      reading-cases (answer 1 total found)
      (λ k i p e. f k p (found_first (specimen_faults P s) k p (refused-finding 1 total found e).1))
      (λ n e. g (clean-none (specimen_faults P s) (accepted-finding 1 total found e).1))

  pub fit-refuses : {k : Cause} {i p : ℕ} → FitRefused P D s d k i p → fit_named P D s d ≡ refused k i p
  unfolding fit_named named_unfolding
  fit-refuses (judges-list f) = let e = pairs-refused P f in rw e
  fit-refuses (judges-dictionary n r) = let e = list.none-accepted P n in let u = dictionary-refused D r in rw (e, u)
  fit-refuses (judges-specimen n T f) =
      let e = list.none-accepted P n in
      let u = dictionary-accepted D T in
      let v = specimen-refused n f in
      rw (e, u, v)
  fit-refuses (judges-description n T z f) =
      let e = list.none-accepted P n in
      let u = dictionary-accepted D T in
      let v = specimen-accepted n z in
      let w = line_refused (dictionary_of D) 2 d f in
      rw (e, u, v, w)

  -- otherwise it answers: yes or no, by the unfolded description
  pub fit-answers : NoneApplies (pair_faults P) → AcceptedBy D d → NoneApplies (specimen_faults P s)
      → fit_named P D s d ≡ Ok (top_fits s (plain_of D d))
  unfolding fit_of
  fit-answers n B z =
      let A = by_lines D d B in
      let v = specimen-accepted n z in
      let w = plain-read D d A 2 in
      fit-plain P D s d A ∙ rw (v, w)

  pub fit-cases : {X : Type 0} → ((k : Cause) (i p : ℕ) → FitRefused P D s d k i p → X)
      → (NoneApplies (pair_faults P) → AcceptedBy D d → NoneApplies (specimen_faults P s) → X) → X
  fit-cases f g =
      list_cases P
      (λ k p r. f k 0 p (judges-list r))
      (λ n. dictionary-cases D
      (λ k i p r. f k i p (judges-dictionary n r))
      (λ T. specimen-cases
      (λ k p r. f k 1 p (judges-specimen n T r))
      (λ z. line-cases D 2 d
      (λ k p r. f k 2 p (judges-description n T z r))
      (λ y. g n (record { dictionary = T; description = y }) z))))

  -- [R25] 11, the dictionary, input 1, a specimen, then input 2
  pub fit-refused-exactly : {k : Cause} {i p : ℕ} → (fit_named P D s d ≡ refused k i p) ↔ FitRefused P D s d k i p
  fit-refused-exactly = (
    λ e. fit-cases
        (λ k' i' p' r. same-refused (FitRefused P D s d) (fit-refuses r) e r)
        (λ n B z. refused-answered e (fit-answers n B z)),
    fit-refuses,
  )
