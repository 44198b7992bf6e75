-- Laws of the code: the ways to an answer.
-- Assumes nothing.
use Prim.Native.Nat.{◌%◌, ◌<◌, ◌≤◌, suc, ℕ}
use lib.Dec.{eqb, ltb}
use lib.ListN.{drop, length, length-map, length-replicate, replicate, take}
use lib.Seq.{take_at}
use mathlib.Core.Bool.{◌||◌, not}
use mathlib.Core.List.{List, [], ◌++◌, ◌∷◌, map}
use mathlib.Core.Path.{◌∙◌, ◌≡◌, ap, refl, sym}
use native.Mathlib.Omega.{arith}
use Rattle.base.proofs.StoresLaws.{length-stored, stored-front}
use Rattle.base.proofs.Tests.{bool_cases, ge-ltb, lt-ltb, ltb-ge}
use Rattle.base.specs.Stores.{stored}
use Rattle.blocks.proofs.Refusing.Readings.{reading-cases}
use Rattle.blocks.specs.Refusals.{unless_refused, refused}
use Rattle.std.specs.Prelude.{Ok, Err}
use Rattle.blocks.specs.Reading.{Reading}
use Rattle.catalogue.specs.Answer.{answers_of, catalogue_of, filled_of}
use Rattle.lists.specs.Parts.{parts_of}
use Rattle.names.specs.NamedReading.{dictionary_of, named_unfolding, sent_of, unfolding_of}
use Rattle.pairs.specs.Pairs.{pairs_reading}
use Rattle.slots.proofs.CutLaws.{cut-taken}
use Rattle.slots.specs.Catalogue.{answers_after, bits_before, cut_reading, list_bits, list_reading, listed_bits, listed_reading, service_bit, services_reading}
use Rattle.blocks.specs.declared.Refusal.{Refusal}
use Rattle.blocks.specs.declared.Cause.TheVariants.{Count, Length, Room}

-- ---- what is accepted

-- the bytes before the first refusal are all bytes where nothing is refused
bits-all : (P D s : List ℕ) (i : ℕ) (ds : List (List ℕ)) {n : ℕ} → services_reading (dictionary_of D) i ds ≡ Ok n → bits_before P D s i ds ≡ map (service_bit P D s) ds
unfolding services_reading bits_before
bits-all P D s i [] e = refl
bits-all P D s i (d ∷ ds) {n} e =
    reading-cases (named_unfolding (dictionary_of D) i d)
    (λ k j p q. let z : refused k j p ≡ Ok n = rw q at e in cc)
    (λ m q. let w : services_reading (dictionary_of D) (suc i) ds ≡ Ok n = rw q at e in rw (q, bits-all P D s (suc i) ds w))

-- the ways to a list that is accepted: nothing is refused
pub record Taken (P D c list : List ℕ) (n : ℕ) : Type 0 where
  pub pairs : ℕ
  pub list_read : pairs_reading P ≡ Ok pairs
  pub entries : ℕ
  pub supplier : unfolding_of D 1 c ≡ Ok entries
  pub cut : cut_reading list ≡ Ok n
  pub count : n ≡ length (parts_of list)
  pub few : n ≤ 64
  pub judged : ℕ
  pub services : services_reading (dictionary_of D) 2 (parts_of list) ≡ Ok judged

-- an answer that is accepted comes after a reading that is
goes : {X : Type 0} (r a : Reading) {n : ℕ} → unless_refused Err r a ≡ Ok n → ((m : ℕ) → r ≡ Ok m → a ≡ Ok n → X) → X
goes (Err x) a e f = cc
goes (Ok m) a e f = f m refl e

module _ (P D c list : List ℕ) {n : ℕ} (e : list_reading P D c list ≡ Ok n) where
  pub list-taken : Taken P D c list n
  unfolding list_reading listed_reading
  list-taken =
      goes (pairs_reading P) (unless_refused Err (unfolding_of D 1 c) (listed_reading D list)) e (λ m l e₁.
      goes (unfolding_of D 1 c) (listed_reading D list) e₁ (λ k s e₂.
      goes (cut_reading list) _ e₂ (λ t q e₃.
      goes (services_reading (dictionary_of D) 2 (parts_of list)) (Ok (length (parts_of list))) e₃ (λ j r e₄.
      let w = cut-taken list q in
      let is : n ≡ length (parts_of list) = cc in
      let same : t ≡ n = omega (arith, w.0) in
      record {
        pairs = m;
        list_read = l;
        entries = k;
        supplier = s;
        cut = q ∙ ap Ok same;
        count = is;
        few = omega (arith, w.1);
        judged = j;
        services = r;
      }))))

  bits-listed : list_bits P D c list ≡ answers_of P D c list
  unfolding list_bits listed_bits answers_of
  bits-listed =
      let T = list-taken in
      rw (T.list_read, T.supplier, T.cut) (bits-all P D (sent_of D c) 2 (parts_of list) T.services)

  answers-long : length (answers_of P D c list) ≡ n
  unfolding answers_of
  answers-long = length-map (parts_of list) (service_bit P D (sent_of D c)) ∙ sym list-taken.count

-- ---- the ways to an answer

-- the table stays as long as it is
pub answer-room : (P D c list : List ℕ) {answers : List ℕ} → answers ≡ answers_after P D c list (replicate 64 0) → 64 ≡ length answers
unfolding answers_after
answer-room P D c list a = sym (ap length a ∙ length-stored (replicate 64 0) (list_bits P D c list) 0 ∙ length-replicate {A = ℕ} 64 0)

module _ (P D c list out : List ℕ) {r : Reading} (q : r ≡ list_reading P D c list) where
  pub answer-refused : {x : Refusal} → r ≡ Err x → (Err x ≡ catalogue_of P D c list out) × (out ≡ filled_of P D c list out)
  unfolding catalogue_of filled_of
  answer-refused e = let w = sym q ∙ e in (rw w, rw w)

  module _ {n : ℕ} (e : r ≡ Ok n) where
    accepted : list_reading P D c list ≡ Ok n
    accepted = sym q ∙ e

    -- the table has a byte for each service
    pub answer-few : {answers : List ℕ} → answers ≡ answers_after P D c list (replicate 64 0) → n ≤ length answers
    answer-few a = omega (arith, answer-room P D c list a, (list-taken P D c list accepted).few)

    pub answer-short : length out < n → (refused Room 0 0 ≡ catalogue_of P D c list out) × (out ≡ filled_of P D c list out)
    unfolding catalogue_of filled_of
    answer-short h =
        let l : length out < length (parts_of list) = omega (arith, (list-taken P D c list accepted).count) in
        (rw (accepted, lt-ltb l), rw (accepted, lt-ltb l))

    pub answer-filled : n ≤ length out → {answers new : List ℕ} → answers ≡ answers_after P D c list (replicate 64 0) → new ≡ take n answers ++ drop n out
        → (Ok n ≡ catalogue_of P D c list out) × (new ≡ filled_of P D c list out)
    unfolding catalogue_of filled_of answers_after
    answer-filled h a w =
        let T = list-taken P D c list accepted in
        let count = T.count in
        let l : length (parts_of list) ≤ length out = omega arith in
        let bits = answers_of P D c list in
        let long = answers-long P D c list accepted in
        let few = T.few in
        let zeros = length-replicate {A = ℕ} 64 0 in
        let front : stored (replicate 64 0) 0 bits ≡ bits ++ drop (length bits) (replicate 64 0) = stored-front (replicate 64 0) bits (omega arith) in
        let same : take n (stored (replicate 64 0) 0 (list_bits P D c list)) ≡ bits = rw (bits-listed P D c list accepted, front) (take_at bits (drop (length bits) (replicate 64 0)) n long) in
        (rw (accepted, ge-ltb l) (ap Ok count), w ∙ rw (a, same, accepted, ge-ltb l, ← count))
