-- The looks of a comparison: a search looks at 24 cells at most, exactly as many as the contract of `cell_for` says, and a
-- walk comes to 128 numbers at most; what that makes for all entries of both descriptions, all slots and all lacks.
-- Assumes nothing.
use Rattle.std.proofs.Common.{◌≡◌, ◌∙◌, ℕ, zero, suc, ◌+◌, ◌-◌, ◌*◌, ◌%◌, ◌≤◌, ◌≢◌, ◌||◌, true, false, eqb, ltb, List, get_or, ap, sym, refl, arith}
use Rattle.base.proofs.ChainLaws.{walk-falls, walk-goes, walk-starts}
use Rattle.base.proofs.Tests.{bool_cases, eq-cases, eq-eqb, ne_eqb}
use Rattle.base.specs.Chain.{Chains, OnChain}
use Rattle.base.specs.Range.{sum}
use Rattle.base.specs.Ways.{Ends, Passed, Way, by_quotient, cell_after}
use Rattle.blocks.specs.Entries.{nth}
use Rattle.blocks.specs.declared.Entry.{Entry}
use Rattle.looks.specs.Looks.{building_looks, judging_looks, judging_steps, lack_at, list_steps, looks_after, marking_steps, restricting_steps, slot_looks, state_at, steps_from}
use Rattle.pairs.proofs.IndexLaws.{bucket-below}
use Rattle.pairs.specs.code.Index.{PairsIndexed, bucket_of}
use Rattle.passes.specs.code.Slots.{Slot}
use Rattle.slots.specs.code.Marking.{marked_slot}
use Rattle.slots.specs.code.States.{passed}
use Rattle.slots.specs.code.Tables.{key_in, keys_of}

-- ---- one search

module _ (key : ℕ → ℕ) (t : List ℕ) (w : Way) (x : ℕ) where
  -- one cell, and one for each turn
  looks-most : (left turn : ℕ) → looks_after key t w x left turn ≤ left + 1
  unfolding looks_after
  looks-most zero turn = omega arith
  looks-most (suc left) turn =
      let s = get_or t (cell_after t w x turn) 0 in
      bool_cases (eqb s 0 || eqb (key s) x)
      (λ q. rw q (omega arith))
      (λ q. rw q (omega (arith, looks-most left (suc turn))))

  stops : (s : ℕ) → (s ≢ 0 → key s ≡ x) → (eqb s 0 || eqb (key s) x) ≡ true
  stops s f = eq-cases s 0 (λ z. rw (eq-eqb z) refl) (λ z. rw (ne_eqb z, eq-eqb (f z)) refl)

  goes-on : (s : ℕ) → s ≢ 0 → key s ≢ x → (eqb s 0 || eqb (key s) x) ≡ false
  goes-on s z y = rw (ne_eqb z, ne_eqb y) refl

  module _ {turns c : ℕ} (P : Passed key t w x turns c) (found : get_or t c 0 ≢ 0 → key (get_or t c 0) ≡ x) where
    looks-left : (left turn : ℕ) → turn ≤ turns → turns ≤ turn + left → looks_after key t w x left turn ≡ turns - turn + 1
    unfolding looks_after
    looks-left zero turn lo hi = omega arith
    looks-left (suc left) turn lo hi =
        let s = get_or t (cell_after t w x turn) 0 in
        eq-cases turn turns
        (λ z.
        let here : get_or t c 0 ≡ s = ap (λ (d : ℕ). get_or t d 0) (P.cell ∙ ap (cell_after t w x) (sym z)) in
        let test : (eqb s 0 || eqb (key s) x) ≡ true = stops s (rw here at found) in
        rw test (omega arith))
        (λ z.
        let test : (eqb s 0 || eqb (key s) x) ≡ false = goes-on s (P.full turn (omega arith)) (P.other turn (omega arith)) in
        rw test (omega (arith, looks-left left (suc turn) (omega arith) (omega arith))))

-- The cell where a search ends, as `cell_for` answers it, is the last of those counted: it has looked at exactly so many.
pub looks-ended : {key : ℕ → ℕ} {t : List ℕ} {w : Way} {bits x c : ℕ} (E : Ends key t w bits x c) → looks_after key t w x bits 0 ≡ E.turns + 1
looks-ended {key} {t} {w} {bits} {x} E = looks-left key t w x E.passed E.found bits 0 (omega arith) (omega (arith, E.few)) ∙ omega arith

pub slot-looks-few : (t : List ℕ) (most : ℕ) (cells : List ℕ) (x : ℕ) → slot_looks t most cells x ≤ 24
unfolding slot_looks
slot-looks-few t most cells x = looks-most (keys_of t) cells (by_quotient most) x 23 0

-- ---- one walk

module _ {c next head : ℕ → ℕ} {most n : ℕ} (C : Chains c next head most n) (b : ℕ) where
  -- each number is less than the one before it in the walk
  steps-most : (more k : ℕ) → OnChain c b k n → steps_from next more k ≤ k
  unfolding steps_from
  steps-most zero k S = omega arith
  steps-most (suc more) k S =
      eq-cases k 0
      (λ z. rw (eq-eqb z) (omega arith))
      (λ z. rw (ne_eqb z) (omega (arith, steps-most more (next k) (walk-goes C b S z refl), walk-falls C b S z refl)))

  -- so it comes to its end: more steps are none
  pub steps-end : (more k : ℕ) → OnChain c b k n → k ≤ more → steps_from next (suc more) k ≡ steps_from next more k
  unfolding steps_from
  steps-end zero k S h = let z : k ≡ 0 = omega arith in rw z refl
  steps-end (suc more) k S h =
      eq-cases k 0
      (λ z. rw (eq-eqb z) refl)
      (λ z. rw (ne_eqb z) (ap (λ (m : ℕ). 1 + m) (steps-end more (next k) (walk-goes C b S z refl) (omega (arith, walk-falls C b S z refl)))))

module _ {P index : List ℕ} (I : PairsIndexed P index) (p : ℕ) where
  pub list-steps-few : list_steps index p ≤ 128
  unfolding list_steps
  list-steps-few =
      let S = walk-starts I.chains (bucket_of p) (bucket-below p) refl in
      omega (arith, steps-most I.chains (bucket_of p) 128 (get_or index (bucket_of p) 0) S, S.bound, I.few)

  -- which is to its end: one step more would be none
  pub list-steps-whole : steps_from (λ k. get_or index (256 + k) 0) 129 (get_or index (bucket_of p) 0) ≡ list_steps index p
  unfolding list_steps
  list-steps-whole =
      let S = walk-starts I.chains (bucket_of p) (bucket-below p) refl in
      steps-end I.chains (bucket_of p) 128 (get_or index (bucket_of p) 0) S (omega (arith, S.bound, I.few))

-- ---- all of a pass

-- what is at most so much for each is so at most for all
cells-sum : (f : ℕ → ℕ) (n : ℕ) → ((k : ℕ) → f k ≤ 24) → sum f n ≤ 24 * n
unfolding sum
cells-sum f zero h = omega arith
cells-sum f (suc n) h = omega (arith, cells-sum f n h, h n)

slots-sum : (f : ℕ → ℕ) (n : ℕ) → ((k : ℕ) → f k ≤ 256) → sum f n ≤ 256 * n
unfolding sum
slots-sum f zero h = omega arith
slots-sum f (suc n) h = omega (arith, slots-sum f n h, h n)

steps-sum : (f g : ℕ → ℕ) (n : ℕ) → ((k : ℕ) → f k ≤ 128 * g k) → sum f n ≤ 128 * sum g n
unfolding sum
steps-sum f g zero h = omega arith
steps-sum f g (suc n) h = omega (arith, steps-sum f g n h, h n)

judging-looks-few : (ss : List Slot) (t : List ℕ) (most : ℕ) (cells : List ℕ) (es : List Entry) (n : ℕ) → judging_looks ss t most cells es n ≤ 24
unfolding judging_looks
judging-looks-few ss t most cells es n =
    bool_cases (eqb (state_at ss es n) passed)
    (λ q. rw q (omega arith))
    (λ q. rw q (slot-looks-few t most cells _))

judging-steps-few : {P index : List ℕ} → PairsIndexed P index → (es : List Entry) (n : ℕ) → judging_steps index es n ≤ 128 * lack_at es n
unfolding judging_steps lack_at
judging-steps-few I es n =
    bool_cases (eqb (nth es n).kind 2)
    (λ q. rw q (omega (arith, list-steps-few I (nth es n).name)))
    (λ q. rw q (omega arith))

filling-steps-few : {P index : List ℕ} → PairsIndexed P index → (x : ℕ) → marking_steps index x + restricting_steps index x ≤ 256
unfolding marking_steps restricting_steps
filling-steps-few {index = index} I x =
    let most = list-steps-few I (key_in x % 65536) in
    bool_cases (marked_slot index x)
    (λ q. bool_cases (ltb (key_in x % 131072) 65536) (λ p. rw (q, p) (omega (arith, most))) (λ p. rw (q, p) (omega (arith, most))))
    (λ q. bool_cases (ltb (key_in x % 131072) 65536) (λ p. rw (q, p) (omega (arith, most))) (λ p. rw (q, p) (omega arith)))

-- The searches of a comparison come to 24 cells at most for each entry of both descriptions, whatever names were chosen.
pub comparison-looks : (tables cells : ℕ → List ℕ) (key : ℕ → ℕ) (ss : List Slot) (t : List ℕ) (most : ℕ) (kept : List ℕ) (es : List Entry) (n m : ℕ)
    → sum (λ k. building_looks tables most cells key (k + 1)) n + sum (λ k. judging_looks ss t most kept es (k + 1)) m ≤ 24 * (n + m)
comparison-looks tables cells key ss t most kept es n m =
    omega (
      arith,
      cells-sum (λ k. building_looks tables most cells key (k + 1)) n (λ k. slot-looks-few (tables (k + 1)) most (cells (k + 1)) (key (k + 1))),
      cells-sum (λ k. judging_looks ss t most kept es (k + 1)) m (λ k. judging-looks-few ss t most kept es (k + 1)),
    )

-- Filling comes to 256 numbers of the list at most for each slot, two walks,
pub filling-steps : {P index : List ℕ} → PairsIndexed P index → (t : List ℕ) (used : ℕ)
    → sum (λ s. marking_steps index (get_or t (s + 1) 0) + restricting_steps index (get_or t (s + 1) 0)) used ≤ 256 * used
filling-steps {index = index} I t used =
    slots-sum (λ s. marking_steps index (get_or t (s + 1) 0) + restricting_steps index (get_or t (s + 1) 0)) used (λ s. filling-steps-few I (get_or t (s + 1) 0))

-- and judging to 128 numbers of the list at most for each lack, whatever pairs were chosen.
pub comparison-steps : {P index : List ℕ} → PairsIndexed P index → (es : List Entry) (m : ℕ)
    → sum (λ k. judging_steps index es (k + 1)) m ≤ 128 * sum (λ k. lack_at es (k + 1)) m
comparison-steps {index = index} I es m =
    steps-sum (λ k. judging_steps index es (k + 1)) (λ k. lack_at es (k + 1)) m (λ k. judging-steps-few I es (k + 1))
