-- Laws of slots kept as numbers in a table.
-- Assumes nothing.
use Prim.Native.Nat.{◌%◌, ◌*◌, ◌+◌, ◌/◌, ◌<◌, ◌≤◌, max, min, suc, zero, ℕ}
use lib.Dec.{eqb, ltb}
use lib.ListN.{get_or, length, set}
use lib.Seq.{get_or-set_other, get_or-set_same}
use mathlib.Core.Bool.{Bool, false, true}
use mathlib.Core.List.{List, [], ◌++◌, ◌∷◌}
use mathlib.Core.Logic.{◌⊎◌, inl, inr, ⊎_elim}
use mathlib.Core.Option.{Option}
use mathlib.Core.Path.{◌∙◌, ◌≡◌, ap, refl, sym}
use native.Mathlib.Nat.{add-suc, add-zero, suc-add}
use native.Mathlib.Omega.{arith}
use Rattle.base.proofs.Split.{place_of, row_of}
use Rattle.base.proofs.Tests.{and_both, eq-cases, eq-eqb, eqb-self, ge-ltb, lt-cases, lt-ltb, tests}
use Rattle.passes.proofs.SlotLists.KeyLaws.{class_of, key-parts, key-same, name-of-key, place-of-key}
use Rattle.passes.proofs.SlotLists.SlotLaws.{class-self}
use Rattle.passes.specs.code.Keys.{key_number}
use Rattle.passes.specs.code.Slots.{Slot, position, same_key, slot, smaller, tighten}
use Rattle.slots.specs.code.Tables.{high_in, high_part, key_in, low_part, no_bound, slot_in, slot_number, slots_from}

-- ---- taking a number apart

pub key-made : (key lo hi : ℕ) → lo < 131072 → hi < 131072 → key_in (slot_number key lo hi) ≡ key
unfolding key_in slot_number
key-made key lo hi l h = row_of {r = 17179869184} key (131072 * lo + hi) (omega arith)

pub low-made : (key lo hi : ℕ) → lo < 131072 → hi < 131072 → low_part (slot_number key lo hi) ≡ lo
unfolding low_part slot_number
low-made key lo hi l h =
    ap (λ (x : ℕ). x / 131072 % 131072) (omega arith)
    ∙ ap (λ (x : ℕ). x % 131072) (row_of {r = 131072} (131072 * key + lo) hi h) ∙ place_of {r = 131072} key lo l

pub high-made : (key lo hi : ℕ) → lo < 131072 → hi < 131072 → high_part (slot_number key lo hi) ≡ hi
unfolding high_part slot_number
high-made key lo hi l h = ap (λ (x : ℕ). x % 131072) (omega arith) ∙ place_of {r = 131072} (131072 * key + lo) hi h

-- bounds that stand in one number already
pub low-bound : (x : ℕ) → low_part x < 131072
unfolding low_part
low-bound x = omega arith

pub bounds-under : (key x : ℕ) → x < 17179869184 → 17179869184 * key + x ≡ slot_number key (low_part x) (high_part x)
unfolding slot_number low_part high_part
bounds-under key x h = omega arith

-- the slot of a key and bounds
pub slot-made : (v : ℕ) (b : Bool) (n lo hi : ℕ) → n < 65536 → lo < 131072 → hi < 131072 → slot_in (slot_number (key_number v b n) lo hi) ≡ slot v b n lo (high_in hi)
unfolding slot_in
slot-made v b n lo hi s l h =
    rw (
      slot_in,
      key-made (key_number v b n) lo hi l h,
      low-made (key_number v b n) lo hi l h,
      high-made (key_number v b n) lo hi l h,
      place-of-key v b n s,
      class_of v b n s,
      name-of-key v b n s,
    )

-- a slot whose key is that of a place, class and name
pub slot_is : (x v : ℕ) (b : Bool) (n : ℕ) → n < 65536 → key_in x ≡ key_number v b n → slot_in x ≡ slot v b n (low_part x) (high_in (high_part x))
unfolding slot_in
slot_is x v b n s e = rw (slot_in, e, place-of-key v b n s, class_of v b n s, name-of-key v b n s)

key-self : (v : ℕ) (b : Bool) (n : ℕ) → same_key v b n v b n ≡ true
key-self v b n = and_both (eqb-self v) (and_both (class-self b) (eqb-self n))

-- keys are equal where place, class and name are
pub key-test : (x v : ℕ) (b : Bool) (n : ℕ) → n < 65536
    → same_key (key_in x / 131072) (eqb (key_in x / 65536 % 2) 1) (key_in x % 65536) v b n ≡ eqb (key_in x) (key_number v b n)
key-test x v b n s =
    sym (key-same (key_in x / 131072) (eqb (key_in x / 65536 % 2) 1) (key_in x % 65536) v b n (omega arith) s)
    ∙ ap (λ (k : ℕ). eqb k (key_number v b n)) (key-parts (key_in x))

-- of two upper bounds the smaller
pub smaller-high : (a c : ℕ) → smaller (high_in a) (high_in c) ≡ high_in (min a c)
smaller-high a c =
    lt-cases a no_bound
    (λ h. lt-cases c no_bound
    (λ k. let z : ltb (min a c) no_bound ≡ true = omega tests in rw (lt-ltb h, lt-ltb k, z))
    (λ k. let e : min a c ≡ a = omega arith in rw (e, lt-ltb h, ge-ltb k)))
    (λ h. lt-cases c no_bound
    (λ k. let e : min a c ≡ c = omega arith in rw (e, ge-ltb h, lt-ltb k))
    (λ k. let z : ltb (min a c) no_bound ≡ false = omega tests in rw (ge-ltb h, ge-ltb k, z)))

-- ---- the slots of a table

pub length-slots : (t : List ℕ) (i n : ℕ) → length (slots_from t i n) ≡ n
unfolding slots_from
length-slots t i zero = refl
length-slots t i (suc n) = ap suc (length-slots t (suc i) n)

-- a store outside them changes nothing
pub slots-other : (t : List ℕ) (s x i n : ℕ) → (s < i) ⊎ (i + n ≤ s) → slots_from (set t s x) i n ≡ slots_from t i n
unfolding slots_from
slots-other t s x i zero h = refl
slots-other t s x i (suc n) h =
    rw (
      get_or-set_other t s i x 0 (λ q. ⊎_elim (λ (l : s < i). omega arith) (λ (l : i + suc n ≤ s). omega arith) h),
      slots-other t s x (suc i) n (⊎_elim (λ (l : s < i). inl (omega arith)) (λ (l : i + suc n ≤ s). inr (omega arith)) h),
    )

-- one slot more
pub slots-last : (t : List ℕ) (i n : ℕ) → slots_from t i (suc n) ≡ slots_from t i n ++ (slot_in (get_or t (i + n) 0) ∷ [])
unfolding slots_from
slots-last t i zero = rw add-zero
slots-last t i (suc n) = ap (λ (l : List Slot). slot_in (get_or t i 0) ∷ l) (slots-last t (suc i) n ∙ rw (suc-add, ← add-suc))

module _ (t : List ℕ) (v : ℕ) (b : Bool) (n : ℕ) (small : n < 65536) where
  -- ---- no slot has the key

  pub position-none : (i m : ℕ) → ((j : ℕ) → i ≤ j → j < i + m → eqb (key_in (get_or t j 0)) (key_number v b n) ≡ false)
      → position i (slots_from t i m) v b n ≡ i + m
  unfolding slots_from position slot_in
  position-none i zero h = rw add-zero
  position-none i (suc m) h =
      rw (slot_in, position, key-test (get_or t i 0) v b n small, h i (omega arith) (omega arith))
      (position-none (suc i) m (λ j lo hi. h j (omega arith) (omega arith)) ∙ omega arith)

  pub tighten-none : (lo : ℕ) (hi : Option ℕ) (i m : ℕ) → ((j : ℕ) → i ≤ j → j < i + m → eqb (key_in (get_or t j 0)) (key_number v b n) ≡ false)
      → tighten (slots_from t i m) v b n lo hi ≡ slots_from t i m ++ (slot v b n lo hi ∷ [])
  unfolding slots_from tighten slot_in
  tighten-none lo hi i zero h = refl
  tighten-none lo hi i (suc m) h =
      rw (slot_in, tighten, key-test (get_or t i 0) v b n small, h i (omega arith) (omega arith), tighten-none lo hi (suc i) m (λ j a c. h j (omega arith) (omega arith)))

  skip-slot : (i lo : ℕ) (hi : Option ℕ) (m : ℕ) → eqb (key_in (get_or t i 0)) (key_number v b n) ≡ false
      → tighten (slot_in (get_or t i 0) ∷ slots_from t (suc i) m) v b n lo hi ≡ slot_in (get_or t i 0) ∷ tighten (slots_from t (suc i) m) v b n lo hi
  unfolding slot_in tighten
  skip-slot i lo hi m f = rw (slot_in, tighten, key-test (get_or t i 0) v b n small, f)

  -- ---- slot s has it, and none before

  module _ (s : ℕ) (e : key_in (get_or t s 0) ≡ key_number v b n) where
    pub position-found : (i m : ℕ) → i ≤ s → s < i + m → ((j : ℕ) → i ≤ j → j < s → eqb (key_in (get_or t j 0)) (key_number v b n) ≡ false)
        → position i (slots_from t i m) v b n ≡ s
    unfolding slots_from position slot_in
    position-found i zero a c h = absurd (omega arith)
    position-found i (suc m) a c h =
        eq-cases i s
        (λ q. rw (slot_in, position, key-test (get_or t i 0) v b n small, q, eq-eqb e))
        (λ q.
        rw (slot_in, position, key-test (get_or t i 0) v b n small, h i (omega arith) (omega arith))
        (position-found (suc i) m (omega arith) (omega arith) (λ j x y. h j (omega arith) (omega arith))))

    pub tighten-found : (lo hi i m : ℕ) → s < length t → lo < 131072 → hi < 131072 → i ≤ s → s < i + m
        → ((j : ℕ) → i ≤ j → j < s → eqb (key_in (get_or t j 0)) (key_number v b n) ≡ false)
        → tighten (slots_from t i m) v b n lo (high_in hi)
        ≡ slots_from (set t s (slot_number (key_number v b n) (max (low_part (get_or t s 0)) lo) (min (high_part (get_or t s 0)) hi))) i m
    unfolding slots_from tighten low_part high_part
    tighten-found lo hi i zero l p q a c h = absurd (omega arith)
    tighten-found lo hi i (suc m) l p q a c h =
        let x = get_or t s 0 in
        let y = slot_number (key_number v b n) (max (low_part x) lo) (min (high_part x) hi) in
        eq-cases i s
        (λ z.
        let here : get_or (set t s y) i 0 ≡ y = rw z (get_or-set_same t s y 0 l) in
        let old : slot_in (get_or t i 0) ≡ slot v b n (low_part x) (high_in (high_part x)) = rw z (slot_is x v b n small e) in
        let new : slot_in y ≡ slot v b n (max (low_part x) lo) (high_in (min (high_part x) hi)) = slot-made v b n _ _ small (omega arith) (omega arith) in
        rw (here, new, old, tighten, key-self v b n, smaller-high (high_part x) hi, slots-other t s y (suc i) m (inl (omega arith))))
        (λ z.
        let here : get_or (set t s y) i 0 ≡ get_or t i 0 = get_or-set_other t s i y 0 z in
        rw (here, skip-slot i lo (high_in hi) m (h i (omega arith) (omega arith)))
        (ap (λ (r : List Slot). slot_in (get_or t i 0) ∷ r) (tighten-found lo hi (suc i) m l p q (omega arith) (omega arith) (λ j x' y'. h j (omega arith) (omega arith)))))
