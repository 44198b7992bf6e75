-- Laws of the rows that blocks break.
-- Assumes nothing.
use Rattle.std.proofs.Common.{◌≡◌, ℕ, zero, suc, ◌+◌, ◌-◌, ◌*◌, ◌<◌, ◌≤◌, Bool, true, false, not, ◌||◌, eqb, ltb, leb, ◌≢◌, List, Option, Some, None, sym, ap, ◌∙◌, add-one, arith}
use native.Mathlib.Nat.{mul-le-mul_left}
use Rattle.base.proofs.RangeLaws.{none_left, one_left}
use Rattle.base.proofs.Tests.{and_left, bool_cases, both_ways, eq-cases, eq-eqb, ne_eqb, tests}
use Rattle.base.specs.Range.{all}
use Rattle.blocks.proofs.Refusing.FirstFault.{clean-none, step, step-found, step-more}
use Rattle.blocks.specs.Faults.{Clean, Faulty, block_faults, first}
use Rattle.blocks.specs.declared.Cause.TheVariants.{Check}
use Rattle.blocks.specs.declared.Cause.{Cause}
use Rattle.blocks.specs.Frame.{Frame, check_wrong, frame_wrong, rest_zero, used_in, used_ok, zero_at}
use Rattle.blocks.specs.Promise.{NoneApplies}
use Rattle.blocks.specs.Words.{check_of, second_of, word_at}
use Rattle.blocks.specs.code.ReadingSteps.{block_refusal}

-- ---- number 3, one law for each way through its tests

-- an allowed used count is at most what a block has room for
pub used-at-most : (F : Frame) (n i : ℕ) {u : ℕ} → used_ok F n i u ≡ true → u ≤ F.room
unfolding used_ok
used-at-most F n i {u} h =
    bool_cases (ltb (suc i) n)
    (λ q. omega (tests, rw (used_ok, q) at h))
    (λ q. omega (tests, and_left (leb u F.room) (ltb 0 u || eqb n 1) (rw (used_ok, q) at h)))

-- so the used entries end before byte 508
pub used-bytes : (w : ℕ) {r u : ℕ} → w * r ≡ 504 → u ≤ r → w * u ≤ 504
used-bytes w e h = let m = mul-le-mul_left w h in omega (arith, m)

module _ (F : Frame) (s : List ℕ) (n i : ℕ) where
  pub number-wrong : {w : ℕ} → w ≡ word_at s (512 * i) → w ≢ i + 1 → true ≡ frame_wrong F s n i
  unfolding frame_wrong
  number-wrong e h = simp (frame_wrong, ← e, ne_eqb (λ q. h (q ∙ sym (add-one i))))

  module _ {w u : ℕ} (e : w ≡ word_at s (512 * i)) (number : w ≡ i + 1) (f : u ≡ word_at s (512 * i + 2)) where
    number-right : eqb (word_at s (512 * i)) (suc i) ≡ true
    number-right = eq-eqb (sym e ∙ number ∙ add-one i)

    used-is : used_in s i ≡ u
    unfolding used_in
    used-is = sym f

    pub used-wrong : used_ok F n i u ≡ false → true ≡ frame_wrong F s n i
    unfolding frame_wrong
    used-wrong h = simp (frame_wrong, number-right, used-is, h)

    pub rest-decides : F.width * F.room ≡ 504 → used_ok F n i u ≡ true → {z : Bool}
        → z ≡ all (zero_at s) (512 * i + 4 + F.width * u) (512 * i + 508 - (512 * i + 4 + F.width * u)) → not z ≡ frame_wrong F s n i
    unfolding frame_wrong rest_zero
    rest-decides cells used p =
        let k : 512 * i + 508 - (512 * i + 4 + F.width * u) ≡ F.width * F.room - F.width * u = omega arith in
        simp (frame_wrong, rest_zero, number-right, used-is, used) (ap not (p ∙ ap (all (zero_at s) (512 * i + 4 + F.width * u)) k))

-- ---- number 2

module _ (s : List ℕ) (i : ℕ) {c w : ℕ} (e : w ≡ word_at s (512 * i + 510)) (f : c ≡ check_of s (512 * i)) where
  pub check-fails : w ≢ c → true ≡ check_wrong s i
  unfolding check_wrong
  check-fails h = simp (check_wrong, ← e, ← f, ne_eqb h)

  pub second-decides : w ≡ c → {d v : ℕ} → v ≡ word_at s (512 * i + 508) → d ≡ second_of s (512 * i) → not (eqb v d) ≡ check_wrong s i
  unfolding check_wrong
  second-decides h g k = simp (check_wrong, ← e, ← f, eq-eqb h, ← g, ← k)

-- ---- the pass over the blocks

module _ (F : Frame) (s : List ℕ) (n i : ℕ) where
  block-step : (left : ℕ) → first (block_faults F s n i (suc left)) ≡ step (block_refusal F s n i) (suc i) (first (block_faults F s n (suc i) left))
  unfolding block_faults first block_refusal
  block-step left =
      bool_cases (check_wrong s i)
      (λ q. simp (block_refusal, q))
      (λ q. bool_cases (frame_wrong F s n i) (λ r. simp (block_refusal, q, r)) (λ r. simp (block_refusal, q, r)))

  pub blocks_end : n ≤ i → first (block_faults F s n i (n - i)) ≡ Clean
  unfolding block_faults first
  blocks_end h = rw (none_left i n h)

  module _ {o : Option Cause} (l : i < n) (e : o ≡ block_refusal F s n i) where
    pub blocks_more : o ≡ None → first (block_faults F s n i (n - i)) ≡ first (block_faults F s n (i + 1) (n - (i + 1)))
    blocks_more z = rw (one_left i n l, add-one i) (block-step (n - suc i) ∙ step-more _ _ _ (sym e ∙ z))

    pub blocks-found : {k : Cause} → o ≡ Some k → first (block_faults F s n i (n - i)) ≡ Faulty k (i + 1)
    blocks-found z =
        rw (one_left i n l, add-one i) (block-step (n - suc i) ∙ step-found _ _ _ (sym e ∙ z))

-- blocks in which no fault is found break neither number
pub blocks-none : (F : Frame) (s : List ℕ) (n i left : ℕ) → NoneApplies (block_faults F s n i left) → (k : ℕ) → i ≤ k → k < i + left
    → (check_wrong s k ≡ false) × (frame_wrong F s n k ≡ false)
unfolding block_faults NoneApplies
blocks-none F s n i zero h k lo hi = absurd (omega arith)
blocks-none F s n i (suc left) h k lo hi =
    eq-cases k i
    (λ q. rw q (h.0, h.1.0))
    (λ q. blocks-none F s n (suc i) left h.1.1 k (omega arith) (omega arith))

pub none-blocks : (F : Frame) (s : List ℕ) (n i left : ℕ) → ((k : ℕ) → i ≤ k → k < i + left → (check_wrong s k ≡ false) × (frame_wrong F s n k ≡ false))
    → NoneApplies (block_faults F s n i left)
unfolding block_faults NoneApplies
none-blocks F s n i zero h = tt
none-blocks F s n i (suc left) h =
    let g = h i (omega arith) (omega arith) in
    (g.0, (g.1, none-blocks F s n (suc i) left (λ k lo hi. h k (omega arith) (omega arith))))

-- block b breaks number 2, and no earlier one breaks any
pub blocks-check : (F : Frame) (s : List ℕ) (n i left b : ℕ) → i ≤ b → b < i + left
    → ((k : ℕ) → k < b → (check_wrong s k ≡ false) × (frame_wrong F s n k ≡ false)) → check_wrong s b ≡ true
    → first (block_faults F s n i left) ≡ Faulty Check (suc b)
unfolding block_faults first
blocks-check F s n i zero b lo hi h w = absurd (omega arith)
blocks-check F s n i (suc left) b lo hi h w =
    eq-cases b i
    (λ q. rw (← q, w))
    (λ q. let g = h i (omega arith) in rw (g.0, g.1) (blocks-check F s n (suc i) left b (omega arith) (omega arith) h w))

-- a block that does not break number 3 has an allowed used count
pub frame-used : (F : Frame) (s : List ℕ) (n i : ℕ) → frame_wrong F s n i ≡ false → used_ok F n i (used_in s i) ≡ true
unfolding frame_wrong
frame-used F s n i e =
    bool_cases (used_ok F n i (used_in s i))
    (λ q. q)
    (λ q. both_ways (bool_cases (eqb (word_at s (512 * i)) (suc i)) (λ p. simp (frame_wrong, p, q)) (λ p. simp (frame_wrong, p))) e)

-- the last block of a sound input uses no more entries than it has room for
pub last-used : (F : Frame) (s : List ℕ) (n : ℕ) → 1 ≤ n → first (block_faults F s n 0 n) ≡ Clean → used_in s (n - 1) ≤ F.room
last-used F s n h e =
    used-at-most F n (n - 1) (frame-used F s n (n - 1) (blocks-none F s n 0 n (clean-none _ e) (n - 1) (omega arith) (omega arith)).1)
