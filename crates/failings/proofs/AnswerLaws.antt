-- The ways to an answer: refused as judging refuses, too short, or answered.
-- Assumes nothing.
use Prim.Native.Nat.{◌<◌, ◌≤◌, ℕ}
use lib.ListN.{drop, length, take}
use lib.Seq.{take_at}
use mathlib.Core.List.{List, ◌++◌}
use mathlib.Core.Path.{◌∙◌, ◌≡◌, ap, refl, sym}
use native.Mathlib.Omega.{arith}
use Rattle.base.proofs.Lists.{length-listed}
use Rattle.base.proofs.StoresLaws.{length-stored, stored-front}
use Rattle.base.specs.Stores.{stored}
use Rattle.blocks.proofs.Refusing.Readings.{reading-cases}
use Rattle.blocks.specs.Entries.{entries_of}
use Rattle.blocks.specs.Reading.{reading_of}
use Rattle.blocks.specs.Refusals.{refusal, refused}
use Rattle.blocks.specs.declared.Cause.TheVariants.{Room}
use Rattle.blocks.specs.declared.Refusal.{Refusal}
use Rattle.blocks.specs.declared.Schema.TheVariants.{Description}
use Rattle.earning.proofs.AnswerLaws.{asked-answers, asked-first, asked-pairs, asked-second, asked-short}
use Rattle.earning.specs.Answer.{contained, marked_bytes}
use Rattle.failings.specs.Answer.{failed_of, failing_of, fails}
use Rattle.narrow.specs.Missing.{fails_at}
use Rattle.narrow_listed.proofs.AcceptedLegal.{few-read}
use Rattle.pairs.specs.Pairs.{pairs_reading, under}
use Rattle.slots.specs.Each.{each_after, each_of, failing_bytes}
use Rattle.slots.specs.Holding.{failing_in}
use Rattle.slots.specs.declared.Judgement.{Judgement}
use Rattle.std.specs.Prelude.{Err, Ok, Result}

module _ (P c d : List ℕ) where
  -- nothing is refused
  pub record AllRead (j : Judgement) : Type 0 where
    pub pairs : ℕ
    pub list_read : pairs_reading P ≡ Ok pairs
    pub first : ℕ
    pub first_read : reading_of Description 1 c ≡ Ok first
    pub second : ℕ
    pub second-read : reading_of Description 2 d ≡ Ok second
    pub entries : j.entries ≡ length (entries_of d)
    pub contains : j.contained ≡ contained P c d

  each-taken : {j : Judgement} → each_of P c d ≡ Ok j → AllRead j
  unfolding each_of failing_in
  each-taken {j} e =
      reading-cases (pairs_reading P)
      (λ k i p q. let z : refused k i p ≡ Ok j = rw q at e in let y : ◌≡◌ {A = ℕ} 0 1 = cc in absurd (omega arith))
      (λ m l. reading-cases (reading_of Description 1 c)
      (λ k i p q. let z : refused k i p ≡ Ok j = rw (l, q) at e in let y : ◌≡◌ {A = ℕ} 0 1 = cc in absurd (omega arith))
      (λ n rc. reading-cases (reading_of Description 2 d)
      (λ k i p q. let z : refused k i p ≡ Ok j = rw (l, rc, q) at e in let y : ◌≡◌ {A = ℕ} 0 1 = cc in absurd (omega arith))
      (λ o rd.
      let z : Ok (record { entries = length (entries_of d); contained = contained P c d }) ≡ Ok j = rw (l, rc, rd) at e in
      let y : (record { entries = length (entries_of d); contained = contained P c d }) ≡ j = cc in
      record {
        pairs = m;
        list_read = l;
        first = n;
        first_read = rc;
        second = o;
        second-read = rd;
        entries = sym (ap (λ (h : Judgement). h.entries) y);
        contains = sym (ap (λ (h : Judgement). h.contained) y);
      })))

  -- both calls are refused alike
  asked-refused : (out : List ℕ) {x : Refusal} → each_of P c d ≡ Err x → failing_of P c d out ≡ Err x
  unfolding each_of failing_of failing_in
  asked-refused out {x} e =
      let a = contained P c d in
      reading-cases (pairs_reading P)
      (λ k i p q.
      let z : refused {A = Judgement} k i p ≡ Err x = rw q at e in
      let y : refusal k i p ≡ x = cc in asked-pairs P c d d out a q ∙ ap Err y)
      (λ m l. reading-cases (reading_of Description 1 c)
      (λ k i p q.
      let z : refused {A = Judgement} k i p ≡ Err x = rw (l, q) at e in
      let y : refusal k i p ≡ x = cc in asked-first P c d d out a l q ∙ ap Err y)
      (λ n rc. reading-cases (reading_of Description 2 d)
      (λ k i p q.
      let z : refused {A = Judgement} k i p ≡ Err x = rw (l, rc, q) at e in
      let y : refusal k i p ≡ x = cc in asked-second P c d d out a l rc q ∙ ap Err y)
      (λ o rd.
      let z : Ok (record { entries = length (entries_of d); contained = a }) ≡ Err x = rw (l, rc, rd) at e in
      let y : ◌≡◌ {A = ℕ} 0 1 = cc in absurd (omega arith))))

  -- the bytes that are handed out are those of the entries that fail
  bytes-fail : (out : List ℕ) → failing_bytes (under P) c d ++ drop (length (entries_of d)) out ≡ marked_bytes (fails P c d) (length (entries_of d)) out
  unfolding failing_bytes marked_bytes fails_at
  bytes-fail out = refl

  bytes-long : length (failing_bytes (under P) c d) ≡ length (entries_of d)
  unfolding failing_bytes
  bytes-long = length-listed _ 1 (length (entries_of d))

module _ (P c d out : List ℕ) {r : Result Judgement Refusal} (q : r ≡ each_of P c d) where
  pub answer-refused : {x : Refusal} → r ≡ Err x → (Err x ≡ failing_of P c d out) × (out ≡ failed_of P c d out)
  unfolding failed_of
  answer-refused e = let w = asked-refused P c d out (sym q ∙ e) in (sym w, rw w refl)

  module _ {j : Judgement} (e : r ≡ Ok j) where
    taken : AllRead P c d j
    taken = each-taken P c d (sym q ∙ e)

    room : (t : List ℕ) {bytes : List ℕ} → bytes ≡ each_after P c d t → length bytes ≡ length t
    unfolding each_after
    room t a = ap length a ∙ ap length (rw (sym q ∙ e) refl) ∙ length-stored t (failing_bytes (under P) c d) 0

    pub answer-few : j.entries ≤ 1008
    answer-few = omega (arith, taken.entries, few-read 2 d taken.second-read)

    pub answer-short : length out < j.entries → (refused Room 0 0 ≡ failing_of P c d out) × (out ≡ failed_of P c d out)
    unfolding failing_of failed_of
    answer-short h =
        let T = taken in
        let w = asked-short P c d d out (contained P c d) T.list_read T.first_read T.second-read (omega (arith, T.entries)) in
        (sym w, rw w refl)

    pub answer-given : j.entries ≤ length out → (t : List ℕ) {bytes new : List ℕ} → length t ≡ 1008 → bytes ≡ each_after P c d t
        → new ≡ take j.entries bytes ++ drop j.entries out → (Ok j.contained ≡ failing_of P c d out) × (new ≡ failed_of P c d out)
    unfolding failing_of failed_of each_after
    answer-given h t {bytes} {new} s a w =
        let T = taken in
        let m = length (entries_of d) in
        let x = asked-answers P c d d out (contained P c d) T.list_read T.first_read T.second-read (omega (arith, T.entries)) in
        let b = failing_bytes (under P) c d in
        let long : length b ≡ m = bytes-long P c d in
        let few = few-read 2 d T.second-read in
        let kept : bytes ≡ stored t 0 b = a ∙ rw (sym q ∙ e) refl in
        let is : bytes ≡ b ++ drop (length b) t = kept ∙ stored-front t b (omega arith) in
        let front : take m bytes ≡ b = ap (take m) is ∙ take_at b (drop (length b) t) m long in
        let handed : take j.entries bytes ++ drop j.entries out ≡ marked_bytes (fails P c d) m out = rw (T.entries, front) (bytes-fail P c d out) in
        (rw T.contains (sym x), w ∙ handed ∙ rw x refl)
