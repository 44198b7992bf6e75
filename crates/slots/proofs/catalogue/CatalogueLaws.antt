-- Laws of judging a list: a description that is sent, one service, the services in turn, the list, and what stands before it.
-- Assumes nothing.
use Prim.Native.Nat.{◌*◌, ◌+◌, ◌<◌, ◌≤◌, suc, ℕ}
use lib.Dec.{eqb}
use mathlib.Core.Bool.{Bool}
use lib.ListN.{length, set, take}
use mathlib.Core.List.{List, [], ◌++◌, ◌∷◌, append_assoc, append-nil}
use mathlib.Core.Path.{◌∙◌, ◌≡◌, ap, refl, sym}
use native.Mathlib.Omega.{arith}
use Rattle.std.proofs.lemmas.List.{length_push}
use Rattle.base.proofs.StoresLaws.{stored-none, stored_one, stored-then}
use Rattle.base.specs.Range.{bit}
use Rattle.base.specs.Stores.{stored}
use Rattle.blocks.proofs.Refusing.Readings.{reading-cases}
use Rattle.blocks.specs.Encoding.{blocks_for}
use Rattle.blocks.specs.Frame.{plain}
use Rattle.blocks.specs.Reading.{reading_of, Reading}
use Rattle.std.specs.Prelude.{Err, Ok}
use Rattle.blocks.specs.Refusals.{refusal, refused}
use Rattle.blocks.specs.declared.Schema.TheVariants.{Named}
use Rattle.lists.proofs.PartLaws.{parts-of-nil}
use Rattle.lists.specs.Parts.{parts_of}
use Rattle.names.proofs.Legality.AcceptedReadings.{nameless-sent}
use Rattle.names.specs.NamedReading.{dictionary_of, dictionary_reading, named_unfolding, parts_reading, sent_of, unfolding_of}
use Rattle.pairs.specs.Pairs.{pairs_reading, under}
use Rattle.slots.specs.Catalogue.{answers_after, bits_before, cut_reading, list_bits, list_reading, listed_bits, listed_reading, service_bit, services_reading}
use Rattle.slots.specs.Holding.{failing_in}
use Rattle.slots.specs.code.Judging.{JudgesAll, JudgesListed, JudgesSupplied, Judgement, plain_judged, service_judged}
use Rattle.blocks.specs.declared.Refusal.{Refusal}
use Rattle.unfolding.proofs.BufferLaws.{at-buffer, buffer-plain, sent-itself, sent-plain}
use Rattle.unfolding.proofs.CallLaws.{dictionary-goes, dictionary-stops}
use Rattle.unfolding.specs.Answer.{unfold_at, unfolded_at}

-- ---- a description that is sent

-- where nothing may be named, it is read as it is
pub read-nameless : (i : ℕ) (s : List ℕ) {r : Reading} → r ≡ reading_of (Named 0) i s → r ≡ unfolding_of [] i s
read-nameless i s q = q ∙ nameless-sent i s [] refl

-- else the blocks of what it stands for are at the front of a buffer
module _ (D : List ℕ) (i : ℕ) (s : List ℕ) (some : 0 < length D) where
  pub read-buffered : (buffer : List ℕ) {after : List ℕ} {r : Reading} → 8192 ≤ length buffer → r ≡ unfold_at D i s buffer → after ≡ unfolded_at D i s buffer
      → (r ≡ unfolding_of D i s) × ((n k : ℕ) → r ≡ Ok n → k ≡ 512 * blocks_for plain n → take k after ≡ sent_of D s)
  read-buffered buffer h q w =
      let same = at-buffer D i s buffer h in
      (q ∙ same, λ n k e b. rw b (buffer-plain D i s (sym same ∙ sym q ∙ e) buffer h w ∙ sym (sent-plain D s some)))

-- ---- a dictionary that is accepted

-- one of length 0 is
pub none-taken : dictionary_reading [] ≡ Ok 0
unfolding dictionary_reading parts_reading
none-taken = rw parts-of-nil

-- ---- one service

module _ (P D : List ℕ) {k : ℕ} (T : dictionary_reading D ≡ Ok k) (s : List ℕ) (i : ℕ) (d : List ℕ) {r : Reading} (e : r ≡ unfolding_of D i d) where
  read_as : named_unfolding (dictionary_of D) i d ≡ r
  read_as = sym (e ∙ dictionary-goes D i d refl T)

  pub service-refused : {x : Refusal} → r ≡ Err x → Err x ≡ service_judged P D s i d
  unfolding service_judged
  service-refused q = let w = read_as ∙ q in rw w

  pub service-judged : {m x : ℕ} {b : Bool} → r ≡ Ok m → x ≡ failing_in (under P) s (sent_of D d) → b ≡ eqb x 0 → Ok b ≡ service_judged P D s i d
  unfolding service_judged
  service-judged q f g = let w = read_as ∙ q in rw (w, g, f)

-- where nothing may be named it is judged as it is sent
pub service-plain : (P s : List ℕ) (i : ℕ) (d : List ℕ) → plain_judged P s i d ≡ service_judged P [] s i d
unfolding plain_judged service_judged
service-plain P s i d =
    let read = nameless-sent i d [] refl ∙ dictionary-goes [] i d refl none-taken in
    let same = sent-itself [] d refl in
    rw (read, same)

-- what came of it says how it was read
module _ (P D s : List ℕ) (i : ℕ) (d : List ℕ) where
  refused_as : {x : Refusal} → Err x ≡ service_judged P D s i d → named_unfolding (dictionary_of D) i d ≡ Err x
  unfolding service_judged
  refused_as {x} q =
      reading-cases (named_unfolding (dictionary_of D) i d)
      (λ k j p e. let z : ◌≡◌ {A = Judgement} (Err x) (refused k j p) = q ∙ rw e in
      let g : refusal k j p ≡ x = cc in e ∙ ap Err g)
      (λ n e. let z : ◌≡◌ {A = Judgement} (Err x) (Ok (eqb (failing_in (under P) s (sent_of D d)) 0)) = q ∙ rw e in let y : ◌≡◌ {A = ℕ} 0 1 = cc in absurd (omega arith))

  -- a byte is that of the answer
  judged-as : {X : Type 0} {b : Bool} → Ok b ≡ service_judged P D s i d → ((m : ℕ) → named_unfolding (dictionary_of D) i d ≡ Ok m → bit b ≡ service_bit P D s d → X) → X
  unfolding service_judged service_bit
  judged-as {b = b} q f =
      reading-cases (named_unfolding (dictionary_of D) i d)
      (λ k j p e. let z : ◌≡◌ {A = Judgement} (Ok b) (refused k j p) = q ∙ rw e in let y : ◌≡◌ {A = ℕ} 0 1 = cc in absurd (omega arith))
      (λ m e. let z : ◌≡◌ {A = Judgement} (Ok b) (Ok (eqb (failing_in (under P) s (sent_of D d)) 0)) = q ∙ rw e in
      let y : b ≡ eqb (failing_in (under P) s (sent_of D d)) 0 = cc in f m e (ap bit y))

-- ---- the services in turn

-- n services are judged, by the bytes s of the supplier: their bytes stand in the table, and the answer is what those left give
pub record Passing (P D s list old : List ℕ) (left : List (List ℕ)) (n : ℕ) (answers : List ℕ) : Type 0 where
  pub done : List ℕ
  pub count : n ≡ length done
  pub filled : answers ≡ stored old 0 done
  pub same : services_reading (dictionary_of D) 2 (parts_of list) ≡ services_reading (dictionary_of D) (2 + n) left
  pub bits : bits_before P D s 2 (parts_of list) ≡ done ++ bits_before P D s (2 + n) left

pub passing-start : (P D s list old : List ℕ) {left : List (List ℕ)} → left ≡ parts_of list → Passing P D s list old left 0 old
passing-start P D s list old e = rw e (record { done = []; count = refl; filled = stored-none old 0; same = refl; bits = refl })

module _ {P D s list old : List ℕ} {left : List (List ℕ)} {n : ℕ} {answers : List ℕ} (A : Passing P D s list old left n answers) where
  module _ {next : List ℕ} {rest : List (List ℕ)} (e : left ≡ next ∷ rest) {r : Judgement} (w : r ≡ service_judged P D s (2 + n) next) where
    -- refused, it is the answer, and the bytes are those before it
    pub passing-refused : {x : Refusal} → r ≡ Err x → JudgesAll P D s list old (Err x) answers
    unfolding services_reading bits_before
    passing-refused q =
        let R = refused_as P D s (2 + n) next (sym q ∙ w) in (
          sym (rw (A.same, e, R)),
          A.filled ∙ ap (stored old 0) (sym (A.bits ∙ rw (e, R, append-nil A.done))),
        )

    -- judged, it is one of those that are passed
    pub passing-more : {b : Bool} {x : ℕ} → r ≡ Ok b → x ≡ bit b → Passing P D s list old rest (n + 1) (set answers n x)
    unfolding services_reading bits_before
    passing-more {b} {x} q byte =
        judged-as P D s (2 + n) next (sym q ∙ w) (λ m M is.
        let two : 2 + (n + 1) ≡ suc (2 + n) = omega arith in
        let behind = bits_before P D s (suc (2 + n)) rest in
        let more : bits_before P D s 2 (parts_of list) ≡ A.done ++ (x ∷ behind) = A.bits ∙ rw (e, M, byte, is) in
        record {
          done = A.done ++ (x ∷ []);
          count = sym (length_push A.done x ∙ ap (λ (k : ℕ). k + 1) (sym A.count));
          filled = stored-then old A.done (x ∷ []) 0 n A.filled (stored_one answers n x) (omega (arith, A.count));
          same = A.same ∙ rw (e, M, two);
          bits = rw two (more ∙ sym (append_assoc A.done (x ∷ []) behind));
        })

  -- at the end all are judged
  pub passing-all : left ≡ [] → n ≡ length (parts_of list) → JudgesAll P D s list old (Ok n) answers
  unfolding services_reading bits_before
  passing-all z all = (
    sym (rw (A.same, z, all)),
    A.filled ∙ ap (stored old 0) (sym (A.bits ∙ rw (z, append-nil A.done))),
  )

-- ---- the list

module _ (P D s list old : List ℕ) where
  pub list-refused : {x : Refusal} → cut_reading list ≡ Err x → JudgesListed P D s list old (Err x) old
  unfolding listed_reading listed_bits
  list-refused e = (rw e, rw e (stored-none old 0))

  pub list-judged : {n : ℕ} → cut_reading list ≡ Ok n → {r : Reading} {new : List ℕ} → JudgesAll P D s list old r new → JudgesListed P D s list old r new
  unfolding listed_reading listed_bits
  list-judged e j = (j.0 ∙ rw e, j.1 ∙ rw e)

-- ---- the supplier

module _ (P D c list old : List ℕ) {r : Reading} (e : r ≡ unfolding_of D 1 c) where
  pub supplier-refused : {x : Refusal} → r ≡ Err x → JudgesSupplied P D c list old (Err x) old
  supplier-refused q = let w = sym e ∙ q in (rw w, rw w (stored-none old 0))

  pub supplier-read : {n : ℕ} → r ≡ Ok n → {s : List ℕ} → s ≡ sent_of D c → {a : Reading} {new : List ℕ} → JudgesListed P D s list old a new → JudgesSupplied P D c list old a new
  supplier-read q is j = let w = sym e ∙ q in (rw w j.0, rw (w, ← is) j.1)

-- a dictionary that is refused comes before the supplier
pub dictionary-refused : (P D c list old : List ℕ) {x : Refusal} → dictionary_reading D ≡ Err x → JudgesSupplied P D c list old (Err x) old
dictionary-refused P D c list old e = supplier-refused P D c list old (sym (dictionary-stops D 1 c refl e)) refl

-- ---- the list of pairs

module _ (P D c list old : List ℕ) where
  pub pairs-refused : {x : Refusal} → pairs_reading P ≡ Err x → (Err x ≡ list_reading P D c list) × (old ≡ answers_after P D c list old)
  unfolding list_reading answers_after list_bits
  pairs-refused e = (rw e, rw e (stored-none old 0))

  pub pairs-taken : {n : ℕ} → pairs_reading P ≡ Ok n → {a : Reading} {new : List ℕ} → JudgesSupplied P D c list old a new → (a ≡ list_reading P D c list) × (new ≡ answers_after P D c list old)
  unfolding list_reading answers_after list_bits
  pairs-taken e j = (rw e j.0, rw e j.1)
