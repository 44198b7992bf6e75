-- Laws of entering an entry into the table of slots.
-- Assumes nothing.
use Prim.Native.Nat.{◌*◌, ◌+◌, ◌<◌, ◌≤◌, max, min, suc, ℕ}
use lib.Dec.{eqb}
use lib.ListN.{get_or, length, length-set, set}
use lib.Seq.{get_or-set_other, get_or-set_same}
use mathlib.Core.Bool.{Bool, false}
use mathlib.Core.List.{List}
use mathlib.Core.Logic.{◌≢◌, inr}
use mathlib.Core.Path.{◌∙◌, ◌≡◌, ap, refl, sym}
use native.Mathlib.Omega.{arith}
use Rattle.base.proofs.ChainLaws.{last_none, last_on}
use Rattle.base.proofs.WayLaws.{ends-at, planted-same, planted_more}
use Rattle.base.proofs.Tests.{eq-cases, eqb-ne}
use Rattle.base.specs.Chain.{last_where}
use Rattle.base.specs.Ways.{Ends, by_quotient}
use Rattle.passes.specs.code.Keys.{key_number}
use Rattle.slots.proofs.slots.TableLaws.{high-made, key-made, position-found, position-none, slot-made, slots-last, slots-other, tighten-found, tighten-none}
use Rattle.slots.specs.code.Tables.{Entered, Exact, Kept, high_in, high_part, key_in, keys_of, low_part, no_bound, slot_number}

-- ---- a slot whose bounds change

-- a slot that is written, new or not, is the only number that changes
exact-set : {o t : List ℕ} {used s : ℕ} (y : ℕ) → Exact o t used → 1 ≤ s → s ≤ used + 1 → s < length t → high_part y ≤ no_bound → Exact o (set t s y) (max used s)
exact-set {o} {t} {used} {s} y x one le h f =
    record {
      size = length-set t s y ∙ x.size;
      high = λ j a b. eq-cases j s
          (λ q. rw (q, get_or-set_same t s y 0 h) f)
          (λ q. rw (get_or-set_other t s j y 0 q) (x.high j a (omega arith)));
      top = get_or-set_other t s 0 y 0 (λ q. omega arith) ∙ x.top;
      rest = λ j l. get_or-set_other t s j y 0 (λ q. omega arith) ∙ x.rest j (omega arith);
    }

module _ {t cells : List ℕ} {most used : ℕ} (K : Kept t most cells used) where
  keys_kept : (s y : ℕ) → s ≤ used → key_in y ≡ key_in (get_or t s 0) → (j : ℕ) → keys_of (set t s y) j ≡ keys_of t j
  keys_kept s y h e j =
      eq-cases j s
      (λ q. rw q (ap key_in (get_or-set_same t s y 0 (omega (arith, K.room))) ∙ e))
      (λ q. ap key_in (get_or-set_other t s j y 0 q))

  pub kept-tighter : (s y : ℕ) → s ≤ used → key_in y ≡ key_in (get_or t s 0) → Kept (set t s y) most cells used
  kept-tighter s y h e =
      record {
        room = rw (length-set t s y) K.room;
        wide = K.wide;
        narrow = K.narrow;
        small = K.small;
        keys = λ j a b. rw (keys_kept s y h e j) (K.keys j a b);
        planted = planted-same (λ j a b. keys_kept s y h e j) K.planted;
        apart = λ i j a b c. rw (keys_kept s y h e i, keys_kept s y h e j) (K.apart i j a b c);
      }

  -- the slot of a key is where the search for a cell ends
  pub found-there : {key c s : ℕ} → Ends (keys_of t) cells (by_quotient most) 23 key c → s ≡ get_or cells c 0 → s ≡ last_where (keys_of t) key used
  found-there E e = e ∙ ends-at K.planted (λ i j a b d. eqb-ne (K.apart i j a b d)) E

  -- ---- a new slot

  module _ (key lo hi : ℕ) {c : ℕ} (E : Ends (keys_of t) cells (by_quotient most) 23 key c) (free : get_or cells c 0 ≡ 0)
      (there : used + 1 < length t) (more : most + 2 * (used + 1) + 2 ≤ length cells) (l : lo < 131072) (h : hi ≤ no_bound) (bound : key < 1073741824) where
    abbrev put : List ℕ
    put = set t (used + 1) (slot_number key lo hi)

    key-new : keys_of put (used + 1) ≡ key
    key-new = ap key_in (get_or-set_same t (used + 1) (slot_number key lo hi) 0 there) ∙ key-made key lo hi l (omega arith)

    key-old : (j : ℕ) → j ≢ used + 1 → keys_of put j ≡ keys_of t j
    key-old j q = ap key_in (get_or-set_other t (used + 1) j (slot_number key lo hi) 0 q)

    pub none-there : last_where (keys_of t) key used ≡ 0
    none-there = sym (found-there E (sym free))

    pub kept_new : Kept put most (set cells c (used + 1)) (used + 1)
    kept_new =
        record {
          room = rw (length-set t (used + 1) (slot_number key lo hi)) there;
          wide = K.wide;
          narrow = K.narrow;
          small = rw (length-set cells c (used + 1)) K.small;
          keys = λ j a b. eq-cases j (used + 1) (λ q. rw (q, key-new) bound) (λ q. rw (key-old j q) (K.keys j a (omega arith)));
          planted = planted_more K.planted E.passed free more (λ j a b. key-old j (λ q. omega arith)) key-new;
          apart = λ i j a b d.
              let ki : keys_of put i ≡ keys_of t i = key-old i (λ q. omega arith) in
              eq-cases j (used + 1)
              (λ q. rw (ki, q, key-new) (last_none (keys_of t) key used none-there i a (omega arith)))
              (λ q. rw (ki, key-old j q) (K.apart i j a b (omega arith)));
        }

-- ---- the whole

module _ {t cells : List ℕ} {most used : ℕ} (K : Kept t most cells used) (v : ℕ) (b : Bool) (n lo hi : ℕ) {key c s : ℕ} (small : n < 65536)
    (l : lo < 131072) (h : hi ≤ no_bound) (k : key ≡ key_number v b n) (E : Ends (keys_of t) cells (by_quotient most) 23 key c)
    (is : s ≡ get_or cells c 0) (bound : key < 1073741824) where
  pub enter-found : {t' : List ℕ} → s ≢ 0
      → t' ≡ set t s (slot_number (key_in (get_or t s 0)) (max (low_part (get_or t s 0)) lo) (min (high_part (get_or t s 0)) hi))
      → Entered t most cells used v b n lo hi s t' cells
  unfolding low_part high_part
  enter-found z e =
      let x = get_or t s 0 in
      let f = last_on (keys_of t) key used (found-there K E is) in
      let is' : key_in x ≡ key_number v b n = f.bucket z ∙ k in
      let none : (j : ℕ) → 1 ≤ j → j < s → eqb (key_in (get_or t j 0)) (key_number v b n) ≡ false = λ j a c. rw (← is') (K.apart j s a c f.bound) in
      let same : max used s ≡ used = omega (arith, f.bound) in
      let y = slot_number (key_in x) (max (low_part x) lo) (min (high_part x) hi) in
      record {
        at = sym (position-found t v b n small s is' 1 used (omega arith) (omega (arith, f.bound)) none);
        from = omega arith;
        tightened = rw (same, e, is') (sym (tighten-found t v b n small s is' lo hi 1 used (omega (arith, f.bound, K.room)) l (omega arith) (omega arith) (omega (arith, f.bound)) none));
        sized = refl;
        kept = rw (same, e) (kept-tighter K s y f.bound (key-made (key_in x) _ _ (omega arith) (omega arith)));
        exact = λ o X. rw e (exact-set y X (omega arith) (omega (arith, f.bound)) (omega (arith, f.bound, K.room))
            (omega (arith, high-made (key_in x) (max (low_part x) lo) (min (high_part x) hi) (omega arith) (omega arith))));
      }

  pub enter-new : {t' cells' : List ℕ} → used + 1 < length t → most + 2 * (used + 1) + 2 ≤ length cells → s ≡ 0 → t' ≡ set t (used + 1) (slot_number key lo hi)
      → cells' ≡ set cells c (used + 1) → Entered t most cells used v b n lo hi (used + 1) t' cells'
  enter-new there more z e f =
      let free : get_or cells c 0 ≡ 0 = sym is ∙ z in
      let nothing' = none-there K key lo hi E free there more l h bound in
      let none : (j : ℕ) → 1 ≤ j → j < 1 + used → eqb (key_in (get_or t j 0)) (key_number v b n) ≡ false = λ j a c. rw (← k) (last_none (keys_of t) key used nothing' j a (omega arith)) in
      let same : max used (used + 1) ≡ suc used = omega arith in
      let same' : max used (used + 1) ≡ used + 1 = omega arith in
      let y = slot_number key lo hi in
      let last : get_or (set t (used + 1) y) (1 + used) 0 ≡ y = ap (λ (i : ℕ). get_or (set t (used + 1) y) i 0) (omega arith) ∙ get_or-set_same t (used + 1) y 0 there in
      record {
        at = sym (position-none t v b n small 1 used none ∙ omega arith);
        from = omega arith;
        tightened = rw (same, e) (slots-last (set t (used + 1) y) 1 used
            ∙ rw (last, slots-other t (used + 1) y 1 used (inr (omega arith)), k, slot-made v b n lo hi small l (omega arith)) (sym (tighten-none t v b n small lo (high_in hi) 1 used none)));
        sized = rw (f, length-set cells c (used + 1)) refl;
        kept = rw (same', e, f) (kept_new K key lo hi E free there more l h bound);
        exact = λ o X. rw e (exact-set y X (omega arith) (omega arith) there (omega (arith, h, high-made key lo hi l (omega arith))));
      }
