-- The slot of a place, class and name in a table of slots of which no two have one key: there is one slot of the key, or none.
-- Assumes nothing.
use Prim.Native.Nat.{◌%◌, ◌+◌, ◌<◌, ◌≤◌, suc, zero, ℕ}
use lib.Dec.{eqb}
use lib.ListN.{get_or, length, take}
use mathlib.Core.Bool.{Bool, false, true}
use mathlib.Core.List.{List}
use mathlib.Core.Logic.{◌≢◌}
use mathlib.Core.Path.{◌∙◌, ◌≡◌, refl, sym}
use native.Mathlib.Omega.{arith}
use Rattle.std.proofs.lemmas.List.{get_or-take}
use Rattle.base.proofs.ChainLaws.{last_none, last_on}
use Rattle.base.proofs.Tests.{and_zero, bool_cases, both_ways, eq-cases, eq-eqb, lt-cases, tests}
use Rattle.base.specs.Chain.{last_where}
use Rattle.passes.specs.code.Keys.{key_number}
use Rattle.passes.specs.code.Slots.{taken}
use Rattle.slots.specs.code.Tables.{keys_of}
use Rattle.slots.proofs.slots.TableLaws.{key-test, length-slots, position-found}
use Rattle.slots.specs.code.States.{slot_for}
use Rattle.slots.specs.code.Tables.{key_in, slot_in, slots_from}

-- as many slots as are read
pub slots-many : (t : List ℕ) (i n : ℕ) → length (slots_from t i n) ≡ n
slots-many t i n = length-slots t i n

-- the front of a table has the slots that end in it
pub front-slots : (t : List ℕ) (k i n : ℕ) → i + n ≤ k → slots_from (take k t) i n ≡ slots_from t i n
unfolding slots_from
front-slots t k i zero h = refl
front-slots t k i (suc n) h = rw (get_or-take k t i 0 (omega arith), front-slots t k (suc i) n (omega arith))

-- a name of more than two bytes is no slot's
taken-large : (t : List ℕ) (v : ℕ) (b : Bool) (n : ℕ) → 65536 ≤ n → (i m : ℕ) → taken (slots_from t i m) v b n ≡ false
unfolding slots_from taken slot_in
taken-large t v b n h i zero = refl
taken-large t v b n h i (suc m) =
    let z : eqb (key_in (get_or t i 0) % 65536) n ≡ false = omega tests in
    rw (slot_in, taken, z, and_zero, and_zero) (taken-large t v b n h (suc i) m)

module _ (t : List ℕ) (v : ℕ) (b : Bool) (n : ℕ) (small : n < 65536) where
  -- where no slot has the key, it is not taken
  taken_none : (i m : ℕ) → ((j : ℕ) → i ≤ j → j < i + m → eqb (key_in (get_or t j 0)) (key_number v b n) ≡ false) → taken (slots_from t i m) v b n ≡ false
  unfolding slots_from taken slot_in
  taken_none i zero h = refl
  taken_none i (suc m) h =
      rw (slot_in, taken, key-test (get_or t i 0) v b n small, h i (omega arith) (omega arith))
      (taken_none (suc i) m (λ j lo hi. h j (omega arith) (omega arith)))

  -- where slot s has it, it is
  taken-found : (s : ℕ) → key_in (get_or t s 0) ≡ key_number v b n → (i m : ℕ) → i ≤ s → s < i + m → taken (slots_from t i m) v b n ≡ true
  unfolding slots_from taken slot_in
  taken-found s e i zero lo hi = absurd (omega arith)
  taken-found s e i (suc m) lo hi =
      eq-cases i s
      (λ q. rw (slot_in, taken, key-test (get_or t i 0) v b n small, q, eq-eqb e))
      (λ q.
      rw (slot_in, taken, key-test (get_or t i 0) v b n small)
      (bool_cases (eqb (key_in (get_or t i 0)) (key_number v b n))
      (λ y. rw y)
      (λ y. rw y (taken-found s e (suc i) m (omega arith) (omega arith)))))

-- ---- a table of slots, no two of one key

module _ (t : List ℕ) (used : ℕ) (apart : (i j : ℕ) → 1 ≤ i → i < j → j ≤ used → eqb (key_in (get_or t i 0)) (key_in (get_or t j 0)) ≡ false)
    (v : ℕ) (b : Bool) (n : ℕ) where
  -- the slot of a place, class and name is the last, and the only one, of their key
  pub slot-last : n < 65536 → slot_for (slots_from t 1 used) v b n ≡ last_where (keys_of t) (key_number v b n) used
  unfolding slot_for
  slot-last small =
      let s : ℕ = last_where (keys_of t) (key_number v b n) used in
      eq-cases s 0
      (λ z.
      let none = last_none (keys_of t) (key_number v b n) used z in
      rw (taken_none t v b n small 1 used (λ j lo hi. none j lo (omega arith))) (sym z))
      (λ z.
      let f = last_on (keys_of t) (key_number v b n) used {k = s} refl in
      let is : key_in (get_or t s 0) ≡ key_number v b n = f.bucket z in
      rw (taken-found t v b n small s is 1 used (omega arith) (omega (arith, f.bound)))
      (position-found t v b n small s is 1 used (omega arith) (omega (arith, f.bound)) (λ j lo hi. rw (← is) (apart j s lo hi f.bound))))

  -- there is none of a name of more than two bytes
  pub slot-large : 65536 ≤ n → slot_for (slots_from t 1 used) v b n ≡ 0
  unfolding slot_for
  slot-large h = rw (taken-large t v b n h 1 used)

  -- the key of the slot that is found
  pub slot-key : slot_for (slots_from t 1 used) v b n ≢ 0
      → (slot_for (slots_from t 1 used) v b n ≤ used) × (key_in (get_or t (slot_for (slots_from t 1 used) v b n) 0) ≡ key_number v b n) × (n < 65536)
  slot-key z =
      lt-cases n 65536
      (λ small.
      let f = last_on (keys_of t) (key_number v b n) used (slot-last small) in
      (f.bound, f.bucket z, small))
      (λ large. absurd (z (slot-large large)))

  -- a slot of the key is the one that is found
  pub slot-found : n < 65536 → {j : ℕ} → 1 ≤ j → j ≤ used → key_in (get_or t j 0) ≡ key_number v b n → slot_for (slots_from t 1 used) v b n ≡ j
  slot-found small {j} lo hi e =
      let s : ℕ = last_where (keys_of t) (key_number v b n) used in
      let f = last_on (keys_of t) (key_number v b n) used {k = s} refl in
      slot-last small ∙
      eq-cases s 0
      (λ z. absurd (both_ways (eq-eqb e) (last_none (keys_of t) (key_number v b n) used z j lo hi)))
      (λ z. lt-cases s j
      (λ l. absurd (both_ways (eq-eqb (f.bucket z ∙ sym e)) (apart s j (omega arith) l hi)))
      (λ l. eq-cases s j
      (λ q. q)
      (λ q. absurd (both_ways (eq-eqb (e ∙ sym (f.bucket z))) (apart j s lo (omega arith) f.bound)))))
