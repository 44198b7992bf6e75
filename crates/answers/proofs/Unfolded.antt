-- [D8] answers and written bytes are those for the unfolded descriptions, by which the output is measured: by the
-- plain calls, and by the same calls with a dictionary of length 0.
-- Assumes nothing.
use Rattle.std.proofs.Common.{◌≡◌, ℕ, List, [], length, Some, None, Ok, Err, sym, refl, ap, ◌∙◌}
use Rattle.answers.proofs.Accepted.{plain-read}
use Rattle.answers.proofs.Sent.{sent-plain-entries, sent-plain-length, sent-read}
use Rattle.answers.specs.Promise.{Admitted}
use Rattle.blocks.proofs.Refusing.Readings.{reading-cases}
use Rattle.blocks.specs.Entries.{entries_of}
use Rattle.blocks.specs.Faults.{first}
use Rattle.blocks.specs.Frame.{plain, total_in}
use Rattle.blocks.specs.Reading.{Reading, answer, reading_of}
use Rattle.blocks.specs.declared.Schema.TheVariants.{Description}
use Rattle.clashes.specs.Clash.{specimen_faults, specimen_reading}
use Rattle.compare.specs.Answer as comparison
use Rattle.compare.specs.Answer.{Comparison, compare_of, compare_under, output_of}
use Rattle.fit.specs.Answer.{fit_of, top_fits}
use Rattle.logic.specs.Background.{Background}
use Rattle.named.proofs.SentLaws.{sent-accepted}
use Rattle.named.specs.Answer.{compare_named, fit_named, normalise_named, normalised_named, output_named}
use Rattle.names.proofs.Legality.AcceptedReadings.{both-taken}
use Rattle.names.specs.NamedReading.{dictionary_of, named_unfolding, plain_of, sent_of, unfolding_of}
use Rattle.normal.specs.Answer as normal
use Rattle.normal.specs.Answer.{normalise_of, normalise_under, normalised_of}
use Rattle.pairs.specs.Pairs.{pairs_reading, under}
use Rattle.unfolding.proofs.BufferLaws.{sent-itself}

-- ---- the plain description, with a dictionary of length 0

-- it is accepted then too
pub plain-admitted : (D s : List ℕ) → Admitted D s → Admitted [] (plain_of D s)
plain-admitted D s A = record {
  entries = _;
  read = λ i. sent-accepted i (plain_of D s) (plain-read D s A i);
}

-- ---- what is alike in inputs that get one answer

pub record Alike (s t : List ℕ) : Type 0 where
  pub read : (i : ℕ) → reading_of Description i s ≡ reading_of Description i t
  pub entries : entries_of s ≡ entries_of t
  pub size : length s ≡ length t

-- what a call goes on with, and the plain description
pub sent-alike : (D s : List ℕ) → Admitted D s → Alike (sent_of D s) (plain_of D s)
sent-alike D s A = record {
  read = λ i. sent-read D s A i ∙ sym (plain-read D s A i);
  entries = sent-plain-entries D s A;
  size = sent-plain-length D s A;
}

-- the output after each answer
normal-after : (b : Background) (out s t : List ℕ) → entries_of s ≡ entries_of t → (r : Reading)
    → normal.output_after b s out r ≡ normal.output_after b t out r
normal-after b out s t e (Ok k) = rw e
normal-after b out s t e (Err x) = refl

comparison-after : (b : Background) (out s t s' t' : List ℕ) → entries_of s ≡ entries_of t → entries_of s' ≡ entries_of t' → (r : Comparison)
    → comparison.output_after b s s' out r ≡ comparison.output_after b t t' out r
comparison-after b out s t s' t' e e' (Ok None) = refl
comparison-after b out s t s' t' e e' (Ok (Some n)) = rw (e, e')
comparison-after b out s t s' t' e e' (Err x) = refl

module _ (P out s t : List ℕ) (a : Alike s t) where
  pub normal-alike : (normalise_of P s out ≡ normalise_of P t out) × (normalised_of P s out ≡ normalised_of P t out)
  unfolding normalise_of normalised_of normalise_under
  normal-alike =
      let r = a.read 1 in
      let e = a.entries in
      let l = a.size in
      let same : normalise_of P s out ≡ normalise_of P t out = rw (r, e, l) in
      (same, ap (normal.output_after (under P) s out) same ∙ normal-after (under P) out s t e (normalise_of P t out))

  pub comparison-alike : (s' t' : List ℕ) → Alike s' t'
      → (compare_of P s s' out ≡ compare_of P t t' out) × (output_of P s s' out ≡ output_of P t t' out)
  unfolding compare_of output_of compare_under
  comparison-alike s' t' a' =
      let r = a.read 1 in
      let e = a.entries in
      let l = a.size in
      let r' = a'.read 2 in
      let e' = a'.entries in
      let l' = a'.size in
      let same : compare_of P s s' out ≡ compare_of P t t' out = rw (r, e, l, r', e', l') in
      (same, ap (comparison.output_after (under P) s s' out) same ∙ comparison-after (under P) out s t s' t' e e' (compare_of P t t' out))

pub fit-alike : (P x s t : List ℕ) → Alike s t → fit_of P x s ≡ fit_of P x t
unfolding fit_of top_fits
fit-alike P x s t a = let r = a.read 2 in let e = a.entries in rw (r, e)

-- ---- the normal form

module _ (P D d out : List ℕ) (A : Admitted D d) where
  -- by what the call goes on with
  pub normal-goes-on : (normalise_named P D d out ≡ normalise_of P (sent_of D d) out)
      × (normalised_named P D d out ≡ normalised_of P (sent_of D d) out)
  unfolding normalise_named normalised_named normalise_of normalised_of
  normal-goes-on =
      let a = A.read 1 in
      reading-cases (pairs_reading P) (λ k i p e. (rw e, rw e)) (λ n e. (rw (e, a), rw (e, a)))

  -- by the plain call
  pub normal-plain : (normalise_named P D d out ≡ normalise_of P (plain_of D d) out)
      × (normalised_named P D d out ≡ normalised_of P (plain_of D d) out)
  normal-plain =
      let g = normal-goes-on in
      let a = normal-alike P out (sent_of D d) (plain_of D d) (sent-alike D d A) in
      (g.0 ∙ a.0, g.1 ∙ a.1)

-- by the same call
pub normal-unfolded : (P D d out : List ℕ) → Admitted D d
    → (normalise_named P D d out ≡ normalise_named P [] (plain_of D d) out)
    × (normalised_named P D d out ≡ normalised_named P [] (plain_of D d) out)
normal-unfolded P D d out A =
    let named = normal-plain P D d out A in
    let plain = normal-goes-on P [] (plain_of D d) out (plain-admitted D d A) in
    let itself = sent-itself [] (plain_of D d) refl in
    (named.0 ∙ sym (plain.0 ∙ rw itself), named.1 ∙ sym (plain.1 ∙ rw itself))

-- ---- the comparison

module _ (P D c d out : List ℕ) (C : Admitted D c) (A : Admitted D d) where
  pub comparison-goes-on : (compare_named P D c d out ≡ compare_of P (sent_of D c) (sent_of D d) out)
      × (output_named P D c d out ≡ output_of P (sent_of D c) (sent_of D d) out)
  unfolding compare_named output_named compare_of output_of
  comparison-goes-on =
      let a = C.read 1 in
      let b = A.read 2 in
      reading-cases (pairs_reading P) (λ k i p e. (rw e, rw e)) (λ n e. (rw (e, a, b), rw (e, a, b)))

  pub comparison-plain : (compare_named P D c d out ≡ compare_of P (plain_of D c) (plain_of D d) out)
      × (output_named P D c d out ≡ output_of P (plain_of D c) (plain_of D d) out)
  comparison-plain =
      let g = comparison-goes-on in
      let a = comparison-alike P out (sent_of D c) (plain_of D c) (sent-alike D c C) (sent_of D d) (plain_of D d) (sent-alike D d A) in
      (g.0 ∙ a.0, g.1 ∙ a.1)

pub comparison-unfolded : (P D c d out : List ℕ) → Admitted D c → Admitted D d
    → (compare_named P D c d out ≡ compare_named P [] (plain_of D c) (plain_of D d) out)
    × (output_named P D c d out ≡ output_named P [] (plain_of D c) (plain_of D d) out)
comparison-unfolded P D c d out C A =
    let named = comparison-plain P D c d out C A in
    let plain = comparison-goes-on P [] (plain_of D c) (plain_of D d) out (plain-admitted D c C) (plain-admitted D d A) in
    let first = sent-itself [] (plain_of D c) refl in
    let second = sent-itself [] (plain_of D d) refl in
    (named.0 ∙ sym (plain.0 ∙ rw (first, second)), named.1 ∙ sym (plain.1 ∙ rw (first, second)))

-- ---- the fit answer

module _ (P D s d : List ℕ) (A : Admitted D d) where
  pub fit-goes-on : fit_named P D s d ≡ fit_of P s (sent_of D d)
  unfolding fit_named fit_of specimen_reading unfolding_of
  fit-goes-on =
      let a = A.read 2 in
      both-taken D 2 d a (λ m k q w.
      let b : named_unfolding (dictionary_of D) 2 d ≡ Ok A.entries = rw q at a in
      reading-cases (pairs_reading P)
      (λ k i p e. rw e)
      (λ n e. reading-cases (answer 1 (total_in plain s) (first (specimen_faults P s))) (λ k i p f. rw (e, q, f)) (λ l f. rw (e, q, f, b))))

  pub fit-plain : fit_named P D s d ≡ fit_of P s (plain_of D d)
  fit-plain = fit-goes-on ∙ fit-alike P s (sent_of D d) (plain_of D d) (sent-alike D d A)

pub fit-unfolded : (P D s d : List ℕ) → Admitted D d → fit_named P D s d ≡ fit_named P [] s (plain_of D d)
fit-unfolded P D s d A =
    let itself = sent-itself [] (plain_of D d) refl in
    fit-plain P D s d A ∙ sym (fit-goes-on P [] s (plain_of D d) (plain-admitted D d A) ∙ rw itself)
