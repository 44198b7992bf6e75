-- The facts that say one thing stand in a row.
-- Assumes nothing.
use Rattle.std.proofs.Common.{◌≡◌, ℕ, zero, suc, ◌+◌, ◌-◌, ◌*◌, ◌/◌, ◌%◌, ◌<◌, ◌≤◌, Bool, true, false, not, ◌&&◌, ◌||◌, eqb, ltb, leb, ◌≢◌, List, [], ◌∷◌, length, get_or, take, drop, length-take, length-drop, refl, sym, ap, ◌∙◌, arith}
use Rattle.std.proofs.Math.Seq.{take-length}
use Rattle.std.specs.List.{list_any}
use Rattle.std.specs.List.Sorted.{IsPartitionedBy}
use Rattle.std.proofs.lemmas.Grind.{get_or_default_zero}
use Rattle.std.proofs.lemmas.List.{get_or-take, get_or-drop}
use Rattle.std.proofs.lemmas.List.Folds.{list_any_at}
use Rattle.base.proofs.Tests.{and_both, and_left, and_right, bool_cases, eq-eqb, eqb-eq, iff-eq, lt-cases, or_cases, tests}
use Rattle.items.specs.code.Facts.{Alike, Ascends, Small}

-- one of a list passes: which
pub any_index : {A : Type 0} (p : ℕ → Bool) (fs : List ℕ) → list_any p fs ≡ true → ((i : ℕ) → i < length fs → p (get_or fs i 0) ≡ true → A) → A
any_index p [] h k = absurd (let z : ◌≡◌ {A = ℕ} 0 1 = cc in omega arith)
any_index p (f ∷ fs) h k =
    or_cases (p f) (list_any p fs) h (λ q. k 0 (omega arith) q) (λ q. any_index p fs q (λ i l r. k (suc i) (omega arith) r))

-- ascending facts are parted by what they say
pub parted-below : (fs : List ℕ) (what : ℕ) → Ascends fs → IsPartitionedBy (λ f. ltb (f / 65536) what) fs
parted-below fs what A i j d le l h =
    let a = A i j le l in
    let e = get_or_default_zero fs j d l in
    let h' : ltb (get_or fs j 0 / 65536) what ≡ true = rw e at h in
    rw (get_or_default_zero fs i d (omega arith)) (omega tests)

pub parted-upto : (fs : List ℕ) (what : ℕ) → Ascends fs → IsPartitionedBy (λ f. leb (f / 65536) what) fs
parted-upto fs what A i j d le l h =
    let a = A i j le l in
    let e = get_or_default_zero fs j d l in
    let h' : leb (get_or fs j 0 / 65536) what ≡ true = rw e at h in
    rw (get_or_default_zero fs i d (omega arith)) (omega tests)

pub ascends-drop : (fs : List ℕ) (n : ℕ) → Ascends fs → Ascends (drop n fs)
ascends-drop fs n A i j le l = rw (get_or-drop n fs i 0, get_or-drop n fs j 0) (A (n + i) (n + j) (omega arith) (omega (arith, length-drop n fs)))

-- all that is left
pub rest-whole : (fs : List ℕ) (n : ℕ) → take (length fs - n) (drop n fs) ≡ drop n fs
rest-whole fs n = let e : length (drop n fs) ≡ length fs - n = length-drop n fs in rw (← e) (take-length (drop n fs))

module _ (fs : List ℕ) (from count what : ℕ) (A : Ascends fs)
    (before : (i : ℕ) → i < from → ltb (get_or fs i 0 / 65536) what ≡ true)
    (after : (i : ℕ) → from ≤ i → i < length fs → ltb (get_or fs i 0 / 65536) what ≡ false)
    (within : (i : ℕ) → i < count → leb (get_or (drop from fs) i 0 / 65536) what ≡ true)
    (beyond : (i : ℕ) → count ≤ i → i < length (drop from fs) → leb (get_or (drop from fs) i 0 / 65536) what ≡ false)
    (lo : from ≤ length fs) (hi : count ≤ length (drop from fs)) where
  row-at : (i : ℕ) → i < count → get_or (take count (drop from fs)) i 0 ≡ get_or fs (from + i) 0
  row-at i h = get_or-take count (drop from fs) i 0 h ∙ get_or-drop from fs i 0

  says : (i : ℕ) → i < count → get_or fs (from + i) 0 / 65536 ≡ what
  says i h =
      let a = after (from + i) (omega arith) (omega (arith, length-drop from fs)) in
      let w = within i h in
      let e = get_or-drop from fs i 0 in
      let w' : leb (get_or fs (from + i) 0 / 65536) what ≡ true = rw e at w in
      omega tests

  not_below : (j : ℕ) → get_or fs j 0 / 65536 ≡ what → from ≤ j
  not_below j s = lt-cases j from (λ h. let b = before j h in absurd (omega tests)) (λ h. h)

  not_beyond : (j : ℕ) → from ≤ j → j < length fs → get_or fs j 0 / 65536 ≡ what → j - from < count
  not_beyond j past l s =
      lt-cases (j - from) count (λ h. h)
      (λ h.
      let at : from + (j - from) ≡ j = omega arith in
      let e : get_or (drop from fs) (j - from) 0 ≡ get_or fs j 0 = get_or-drop from fs (j - from) 0 ∙ rw at in
      let b = beyond (j - from) h (omega (arith, length-drop from fs)) in
      let b' : leb (get_or fs j 0 / 65536) what ≡ false = rw e at b in
      absurd (omega tests))

  pub row-those : (p : ℕ → Bool) → list_any p (take count (drop from fs)) ≡ list_any (λ f. eqb (f / 65536) what && p f) fs
  row-those p =
      iff-eq
      (λ e. any_index p (take count (drop from fs)) e
      (λ i l r.
      let few : i < count = omega (arith, length-take count (drop from fs)) in
      let r' : p (get_or fs (from + i) 0) ≡ true = rw (row-at i few) at r in
      list_any_at (λ f. eqb (f / 65536) what && p f) fs (from + i) 0 (omega (arith, length-drop from fs)) (and_both (eq-eqb (says i few)) r')))
      (λ e. any_index (λ f. eqb (f / 65536) what && p f) fs e
      (λ j l r.
      let s : get_or fs j 0 / 65536 ≡ what = eqb-eq (and_left (eqb (get_or fs j 0 / 65536) what) (p (get_or fs j 0)) r) in
      let q = and_right (eqb (get_or fs j 0 / 65536) what) (p (get_or fs j 0)) r in
      let past : from ≤ j = not_below j s in
      let few : j - from < count = not_beyond j past l s in
      let at : from + (j - from) ≡ j = omega arith in
      list_any_at p (take count (drop from fs)) (j - from) 0 (omega (arith, length-take count (drop from fs))) (rw (row-at (j - from) few, at) q)))

  pub row-alike : Small fs → Alike (take count (drop from fs))
  row-alike S =
      let n : length (take count (drop from fs)) ≡ count = omega (arith, length-take count (drop from fs)) in
      record {
        ascending = λ i j le l. rw (row-at i (omega arith), row-at j (omega arith)) (A (from + i) (from + j) (omega arith) (omega (arith, length-drop from fs)));
        same = λ i j l m. rw (row-at i (omega arith), row-at j (omega arith)) (says i (omega arith) ∙ sym (says j (omega arith)));
        small = λ i l. rw (row-at i (omega arith)) (S (from + i) (omega (arith, length-drop from fs)));
      }
