-- Laws of the call: what is asked of the two, and the ways to an answer.
-- Assumes nothing.
use Prim.Native.Nat.{◌+◌, ◌<◌, ◌≤◌, suc, zero, ℕ}
use lib.Dec.{eqb}
use lib.ListN.{drop, length, replicate, take}
use lib.Seq.{length-take-le}
use mathlib.Core.Bool.{Bool, ◌&&◌, false, true}
use mathlib.Core.List.{List, ◌++◌, ◌∷◌}
use mathlib.Core.Logic.{◌↔◌}
use mathlib.Core.Path.{◌∙◌, ◌≡◌, ap, fun_ext, refl, sym}
use native.Mathlib.Omega.{arith}
use Rattle.base.proofs.Lists.{listed}
use Rattle.base.proofs.Tests.{eq-eqb, eqb-eq, ge-ltb, lt-ltb}
use Rattle.base.specs.Range.{bit}
use Rattle.blocks.specs.Entries.{entries_of}
use Rattle.blocks.specs.Reading.{reading_of}
use Rattle.blocks.specs.Refusals.{refused}
use Rattle.blocks.specs.declared.Cause.TheVariants.{Length, Room}
use Rattle.blocks.specs.declared.Refusal.{Refusal}
use Rattle.blocks.specs.declared.Schema.TheVariants.{Description}
use Rattle.earning.proofs.AnswerLaws.{ok-same}
use Rattle.earning.specs.Answer.{contained, marked_bytes}
use Rattle.earning.specs.Leaving.{left_beside, left_of, leaving_of, stays_in, together}
use Rattle.meaning.proofs.Verdicts.Contained.{contained-all}
use Rattle.meaning.specs.Failing.{failing}
use Rattle.missing.specs.Answer.{Lacking, against, asked_both, impossible, lack_of, lacked_of, lacks, missing_of}
use Rattle.missing.specs.declared.Lack.TheVariants.{Addable, Against, Nothing}
use Rattle.missing.specs.declared.Lack.{Lack}
use Rattle.narrow.proofs.Missing.Additions.{missing-none}
use Rattle.narrow.proofs.Missing.BothEntries.{joined-exactly}
use Rattle.narrow.specs.Keeping.{marked}
use Rattle.narrow.specs.Missing.{both, lacking, missing}
use Rattle.narrow_listed.proofs.AcceptedLegal.{legal-read}
use Rattle.pairs.proofs.Under.{ruled-under}
use Rattle.pairs.specs.Pairs.{pairs_reading, under}
use Rattle.slots.proofs.FailingLaws.{judged-read, list_read}
use Rattle.slots.specs.Holding.{Holding, failing_in, holding_by, holding_of}
use Rattle.slots.specs.code.Tables.{slots_of}
use Rattle.std.specs.Prelude.{Err, Ok}

-- ---- what is asked

zeros-listed : (f : ℕ → Bool) (i n : ℕ) → ((k : ℕ) → i ≤ k → k < i + n → f k ≡ false) → listed (λ k. bit (f k)) i n ≡ replicate n 0
unfolding listed
zeros-listed f i zero h = refl
zeros-listed f i (suc n) h = rw (h i (omega arith) (omega arith), zeros-listed f (suc i) n (λ k lo hi. h k (omega arith) (omega arith))) refl

module _ (P c d : List ℕ) {j n m : ℕ} (l : pairs_reading P ≡ Ok j) (r : reading_of Description 1 c ≡ Ok n) (q : reading_of Description 2 d ≡ Ok m) where
  -- the comparison as it stands
  pub holding-both : {room : ℕ} {h : Holding} → h ≡ holding_of P room c d → length (entries_of c) < room
      → h ≡ Ok (holding_by (length (slots_of (under P) c)) (failing (under P) (entries_of c) (entries_of d)))
  unfolding failing_in
  holding-both {room} e w = e ∙ list_read P room c d l ∙ judged-read (under P) room c d r q w

  -- C and D together are contained in D
  pub both-within : together P c d d ≡ true
  both-within =
      eq-eqb ((contained-all (ruled-under P l).lawful (both (entries_of c) (entries_of d)) (entries_of d) (legal-read 2 d q)).1
      (λ s kept x i h. ((joined-exactly (entries_of c) (entries_of d) (legal-read 1 c r) (legal-read 2 d q) s x).0 h).1))

  -- so what stays of D beside C is what C lacks
  stays-lacks : (k : ℕ) → stays_in P c d d k ≡ lacks P c d k
  unfolding left_beside missing lacking
  stays-lacks k = ap (λ (x : Bool). x && marked (left_beside (under P) (entries_of c) (entries_of d) (entries_of d)) (entries_of d) k) both-within

  pub left-lacks : (out : List ℕ) → length (entries_of d) ≤ length out
      → (leaving_of P c d d out ≡ Ok true) × (left_of P c d d out ≡ marked_bytes (lacks P c d) (length (entries_of d)) out)
  unfolding leaving_of left_of
  left-lacks out h = (
    rw (ge-ltb h) (ok-same both-within),
    rw (ge-ltb h) (ap (λ (M : ℕ → Bool). marked_bytes M (length (entries_of d)) out) (fun_ext stays-lacks)),
  )

  -- where C is contained in D nothing is lacking
  pub none-lacks : contained P c d ≡ true → (out : List ℕ) {z : List ℕ} → z ≡ replicate (length (entries_of d)) 0 ++ drop (length (entries_of d)) out
      → z ≡ marked_bytes (lacks P c d) (length (entries_of d)) out
  unfolding marked_bytes
  none-lacks y out e =
      let law = (ruled-under P l).lawful in
      let within = (contained-all law (entries_of c) (entries_of d) (legal-read 2 d q)).0 (eqb-eq y) in
      let none = (missing-none law (entries_of c) (entries_of d) (legal-read 1 c r) (legal-read 2 d q)).1 within in
      e ∙ ap (λ (s : List ℕ). s ++ drop (length (entries_of d)) out) (sym (zeros-listed (lacks P c d) 1 (length (entries_of d)) (λ k lo hi. none k lo (omega arith))))

-- ---- the three answers

pub ok-lack : {a b : Lack} → a ≡ b → ◌≡◌ {A = Lacking} (Ok a) (Ok b)
ok-lack e = rw e refl

-- a front that is cleared
pub cleared : (n m : ℕ) (out : List ℕ) {z : List ℕ} → n ≡ m → n ≤ length out → z ≡ replicate (length (take n out)) 0 → z ++ drop n out ≡ replicate m 0 ++ drop m out
cleared n m out e h q =
    ap (λ (s : List ℕ). s ++ drop n out) (q ∙ ap (λ (k : ℕ). replicate k 0) (length-take-le n out h)) ∙ ap (λ (k : ℕ). replicate k 0 ++ drop k out) e

module _ (P c d : List ℕ) where
  pub lack-nothing : contained P c d ≡ true → Nothing ≡ lack_of P c d
  lack-nothing y = rw y refl

  pub lack-against : contained P c d ≡ false → against P c d ≡ true → Against ≡ lack_of P c d
  lack-against n y = rw (n, y) refl

  pub lack-addable : contained P c d ≡ false → against P c d ≡ false → Addable ≡ lack_of P c d
  lack-addable n m = rw (n, m) refl

-- ---- the ways to an answer

module _ {A : Type 0} (P c d out : List ℕ) (a : A) where
  pub both-pairs : {x : Refusal} → pairs_reading P ≡ Err x → asked_both P c d out a ≡ Err x
  both-pairs e = rw e refl

  module _ {j : ℕ} (p : pairs_reading P ≡ Ok j) where
    pub both-first : {x : Refusal} → reading_of Description 1 c ≡ Err x → asked_both P c d out a ≡ Err x
    both-first e = rw (p, e) refl

    module _ {n : ℕ} (r : reading_of Description 1 c ≡ Ok n) where
      pub both-second : {x : Refusal} → reading_of Description 2 d ≡ Err x → asked_both P c d out a ≡ Err x
      both-second e = rw (p, r, e) refl

      module _ {m : ℕ} (q : reading_of Description 2 d ≡ Ok m) where
        pub both-long : 8192 < length c + length d → asked_both P c d out a ≡ refused Length 2 0
        both-long h = rw (p, r, q, lt-ltb h) refl

        module _ (few : length c + length d ≤ 8192) where
          pub both-narrow : length out < length (entries_of d) → asked_both P c d out a ≡ refused Room 0 0
          both-narrow h = rw (p, r, q, ge-ltb few, lt-ltb h) refl

          pub both-answers : length (entries_of d) ≤ length out → asked_both P c d out a ≡ Ok a
          both-answers h = rw (p, r, q, ge-ltb few, ge-ltb h) refl

module _ (P c d out : List ℕ) where
  pub missing-refused : {x : Refusal} → asked_both P c d out (lack_of P c d) ≡ Err x → (Err x ≡ missing_of P c d out) × (out ≡ lacked_of P c d out)
  unfolding lacked_of missing_of
  missing-refused e = (sym e, rw e refl)

  pub missing-given : asked_both P c d out (lack_of P c d) ≡ Ok (lack_of P c d)
      → (Ok (lack_of P c d) ≡ missing_of P c d out) × (marked_bytes (lacks P c d) (length (entries_of d)) out ≡ lacked_of P c d out)
  unfolding lacked_of missing_of
  missing-given e = (sym e, rw e refl)
