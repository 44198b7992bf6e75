-- [C7] as one statement: an answer for all accepted inputs, each exactly as the finite records have it; and when 7 is
-- answered.
-- Assumes nothing.
use Prim.Native.Nat.{◌+◌, ℕ}
use lib.ListN.{length}
use mathlib.Core.List.{List}
use mathlib.Core.Logic.{◌⊎◌, ◌↔◌, inl, inr}
use mathlib.Core.Path.{◌∙◌, ◌≡◌, ap, sym}
use native.Mathlib.Omega.{arith}
use Rattle.base.proofs.Tests.{both_ways, eq-cases, lt-cases}
use Rattle.blocks.proofs.Refusing.Readings.{reading-cases, readings-cases}
use Rattle.blocks.proofs.RoundTrip.Accepting.{accepted-by-none, none-of-accepted, sound-of-accepted}
use Rattle.blocks.proofs.RoundTrip.RefusalNumbers.{reading-number}
use Rattle.blocks.specs.Entries.{entries_of}
use Rattle.blocks.specs.Reading.{reading_of}
use Rattle.blocks.specs.declared.Schema.TheVariants.{Description}
use Rattle.compare.proofs.AnswerLaws.{compared, first-refused, list_read, list-refused, not-verdict, second-refused, too_short, verdict-contained, verdict-not}
use Rattle.compare.proofs.PromiseKept.{contained-exactly, not-contained-means}
use Rattle.compare.specs.Answer.{compare_of, compare_under, verdict}
use Rattle.compare.specs.Promise.{AnswersNot, Comparable, ContainedInAll, Countermodel, Decided, TooShort}
use Rattle.std.specs.Prelude.{None, Ok}
use Rattle.logic.specs.Background.{Ruled}
use Rattle.meaning.proofs.Verdicts.NotContained.{not-contained-keeps, not-contained-shown}
use Rattle.meaning.specs.Failing.{failing, specimen_of}
use Rattle.meaning.specs.Specimen.{record_of}
use Rattle.pairs.proofs.PairsAccepted.{accepted-none, none-accepted}
use Rattle.pairs.proofs.PairsRefused.{list-number}
use Rattle.pairs.proofs.Under.{ruled-under}
use Rattle.pairs.specs.Pairs.{pairs_reading, under}
use Rattle.pairs.specs.Promise.{ListRead}
use Rattle.blocks.specs.Refusals.{number_of, refusal, refused}
use Rattle.blocks.specs.declared.Refusal.{Refusal}
use Rattle.blocks.specs.declared.Cause.TheVariants.{Room}

module _ (P : List ℕ) (L : ListRead P) (c d out : List ℕ) (r : Comparable c d out) where
  abbrev rules : Ruled (under P)
  rules = ruled-under P L.list_read

  -- the two lists of entries are compared under the list
  answered-by : compare_of P c d out ≡ verdict (under P) (entries_of c) (entries_of d)
  answered-by = list_read P c d out L.list_read ∙ compared (under P) c d out r

  -- one of the two answers is given
  answered : (compare_of P c d out ≡ Ok None) ⊎ AnswersNot P c d out
  answered =
      eq-cases (failing (under P) (entries_of c) (entries_of d)) 0
      (λ z. inl (answered-by ∙ verdict-contained (under P) (entries_of c) (entries_of d) z))
      (λ z. inr (record { entry = _; entries = _; answer = answered-by ∙ verdict-not (under P) (entries_of c) (entries_of d) z }))

  exactly : (compare_of P c d out ≡ Ok None) ↔ ContainedInAll (under P) c d
  exactly =
      let read = list_read P c d out L.list_read in
      let w = contained-exactly rules c d out r in
      (λ e. w.0 (sym read ∙ e), λ f. read ∙ w.1 f)

  -- a countermodel shuts 'contained' out
  model-answers : Countermodel (under P) c d → AnswersNot P c d out
  model-answers x = by answered
    where
      by : (compare_of P c d out ≡ Ok None) ⊎ AnswersNot P c d out → AnswersNot P c d out
      by (inl e) = absurd (both_ways (exactly.0 e x.shown x.keeps x.item x.inside x.fitting) x.missing)
      by (inr y) = y

  -- the specimen is one
  answers-model : AnswersNot P c d out → Countermodel (under P) c d
  unfolding record_of
  answers-model x =
      let v = not-verdict (under P) (entries_of c) (entries_of d) (sym answered-by ∙ x.answer) in
      let Lc = (sound-of-accepted Description 1 c r.first_read).entries in
      let Ld = (sound-of-accepted Description 2 d r.second-read).entries in
      let s = not-contained-shown rules.lawful (entries_of c) (entries_of d) Lc Ld v.0 in
      let k = not-contained-keeps rules.lawful (entries_of c) (entries_of d) Lc Ld v.0 in
      record { shown = record_of (specimen_of (under P) (entries_of c) (entries_of d)); keeps = k; item = 0; inside = omega arith; fitting = s.fitting; missing = s.missing }

  pub decided : Decided P c d out
  decided =
      record {
        answers = answered;
        contained = exactly;
        not-contained = (answers-model, model-answers);
        refuted = not-contained-means P c d out;
      }

-- ---- number 7

module _ (P c d out : List ℕ) where
  seven-short : {i p : ℕ} → compare_of P c d out ≡ refused Room i p → TooShort P c d out
  seven-short {i} {p} e =
      reading-cases (pairs_reading P)
      (λ k j q f.
      let g : refused k j q ≡ refused Room i p = sym (list-refused P c d out f) ∙ e in
      let r : refusal k j q ≡ refusal Room i p = cc in
      let z : number_of k ≡ 7 = ap (λ (x : Refusal). number_of x.cause) r in
      absurd (list-number P f z))
      (λ m l.
      let under' = sym (list_read P c d out l) ∙ e in
      readings-cases (reading_of Description 1 c) (reading_of Description 2 d)
      (λ k j q f.
      let g : refused k j q ≡ refused Room i p = sym (first-refused (under P) c d out f) ∙ under' in
      let r : refusal k j q ≡ refusal Room i p = cc in
      let z : number_of k ≡ 7 = ap (λ (x : Refusal). number_of x.cause) r in
      absurd ((reading-number Description 1 c f).0 z))
      (λ n k j q a f.
      let g : refused k j q ≡ refused Room i p = sym (second-refused (under P) c d out a f) ∙ under' in
      let r : refusal k j q ≡ refusal Room i p = cc in
      let z : number_of k ≡ 7 = ap (λ (x : Refusal). number_of x.cause) r in
      absurd ((reading-number Description 2 d f).0 z))
      (λ n m a e'. lt-cases (length out) (length c + length d)
      (λ h. (accepted-none P l, (none-of-accepted Description 1 c a).0, (none-of-accepted Description 2 d e').0, h))
      (λ h. absurd (not-refused under' (record { first = n; second = m; first_read = a; second-read = e'; room = h })))))
    where
      not-refused : {i p : ℕ} → compare_under (under P) c d out ≡ refused Room i p → Comparable c d out → ⊥
      not-refused {i} {p} e r =
          let b = under P in
          eq-cases (failing b (entries_of c) (entries_of d)) 0
          (λ z. let g : Ok None ≡ refused Room i p = sym (compared b c d out r ∙ verdict-contained b (entries_of c) (entries_of d) z) ∙ e in let w : ◌≡◌ {A = ℕ} 0 1 = cc in omega arith)
          (λ z. let g = sym (compared b c d out r ∙ verdict-not b (entries_of c) (entries_of d) z) ∙ e in let w : ◌≡◌ {A = ℕ} 0 1 = cc in omega arith)

  -- [R25] 7 last: exactly if the list and both inputs are accepted and the output is shorter than both together
  pub seven-exactly : (compare_of P c d out ≡ refused Room 0 0) ↔ TooShort P c d out
  seven-exactly = (
    seven-short,
    λ h.
        list_read P c d out (none-accepted P h.0)
        ∙ too_short (under P) c d out (accepted-by-none Description 1 c h.1) (accepted-by-none Description 2 d h.2) h.3,
  )
