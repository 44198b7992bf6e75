-- The first number that fails a test: the least one, and 0 exactly where none fails.
-- Assumes nothing.
use Prim.Native.Nat.{◌+◌, ◌-◌, ◌<◌, ◌≤◌, suc, zero, ℕ}
use mathlib.Core.Bool.{Bool, false, true}
use mathlib.Core.Logic.{◌≢◌}
use mathlib.Core.Path.{◌≡◌, refl, sym}
use native.Mathlib.Numerals.{add-one}
use native.Mathlib.Omega.{arith}
use Rattle.base.proofs.RangeLaws.{none_left, one_left}
use Rattle.base.proofs.Tests.{bool_cases, eq-cases}
use Rattle.base.specs.Search.{first_from}

-- k is the least number from n on, below e, that fails the test
pub record Least (f : ℕ → Bool) (n e k : ℕ) : Type 0 where
  pub low : n ≤ k
  pub high : k < e
  pub fails : f k ≡ false
  pub before : (j : ℕ) → n ≤ j → j < k → f j ≡ true

module _ (f : ℕ → Bool) where
  -- where all pass, none is found
  pub none_first : (n left : ℕ) → ((j : ℕ) → n ≤ j → j < n + left → f j ≡ true) → first_from f n left ≡ 0
  unfolding first_from
  none_first n zero h = refl
  none_first n (suc left) h = rw (h n (omega arith) (omega arith)) (none_first (suc n) left (λ j lo hi. h j (omega arith) (omega arith)))

  -- where none is found, from a number above 0 on, all pass
  pub first-none : (n left : ℕ) → 1 ≤ n → first_from f n left ≡ 0 → (j : ℕ) → n ≤ j → j < n + left → f j ≡ true
  unfolding first_from
  first-none n zero pos e j lo hi = absurd (omega arith)
  first-none n (suc left) pos e j lo hi =
      bool_cases (f n)
      (λ q. eq-cases j n (λ z. rw z q) (λ z. first-none (suc n) left (omega arith) (rw q at e) j (omega arith) (omega arith)))
      (λ q. let z : n ≡ 0 = rw q at e in absurd (omega arith))

  -- what is found is the least that fails
  pub first-least : (n left : ℕ) {k : ℕ} → first_from f n left ≡ k → k ≢ 0 → Least f n (n + left) k
  unfolding first_from
  first-least n zero e z = absurd (z (sym e))
  first-least n (suc left) {k} e z =
      bool_cases (f n)
      (λ q.
      let r = first-least (suc n) left (rw q at e) z in
      record {
        low = omega (arith, r.low);
        high = omega (arith, r.high);
        fails = r.fails;
        before = λ j lo hi. eq-cases j n (λ y. rw y q) (λ y. r.before j (omega arith) hi);
      })
      (λ q.
      let y : n ≡ k = rw q at e in
      record { low = omega arith; high = omega arith; fails = rw (← y) q; before = λ j lo hi. absurd (omega arith) })

  -- the least that fails is found
  pub least_first : (n left k : ℕ) → Least f n (n + left) k → first_from f n left ≡ k
  unfolding first_from
  least_first n zero k h = absurd (omega (arith, h.low, h.high))
  least_first n (suc left) k h =
      eq-cases k n
      (λ z. let q : f n ≡ false = rw z at h.fails in rw q (sym z))
      (λ z. rw (h.before n (omega arith) (omega (arith, h.low)))
      (least_first (suc n) left k
      (record {
        low = omega (arith, h.low);
        high = omega (arith, h.high);
        fails = h.fails;
        before = λ j lo hi. h.before j (omega arith) hi;
      })))

  -- what is found is not past the last
  pub first-within : (n left : ℕ) → first_from f n left ≤ n + left
  unfolding first_from
  first-within n zero = omega arith
  first-within n (suc left) = bool_cases (f n) (λ q. rw q (omega (arith, first-within (suc n) left))) (λ q. rw q (omega arith))

  -- ---- a loop that counts n up to e

  pub first-end : (n e : ℕ) → e ≤ n → first_from f n (e - n) ≡ 0
  unfolding first_from
  first-end n e h = rw (none_left n e h)

  pub first_goes : (n e : ℕ) → n < e → f n ≡ true → first_from f n (e - n) ≡ first_from f (n + 1) (e - (n + 1))
  unfolding first_from
  first_goes n e h q = rw (one_left n e h, first_from, q) (rw add-one)

  pub first_stops : (n e : ℕ) → n < e → f n ≡ false → first_from f n (e - n) ≡ n
  unfolding first_from
  first_stops n e h q = rw (one_left n e h, first_from, q)

  -- ---- a loop that takes `count` at a time

  pub first-later : (n count e : ℕ) → 1 ≤ n → n + count ≤ e → first_from f n count ≡ 0 → first_from f n (e - n) ≡ first_from f (n + count) (e - (n + count))
  unfolding first_from
  first-later n zero e pos le z = let s : n + 0 ≡ n = omega arith in rw s
  first-later n (suc count) e pos le z =
      let s : n + suc count ≡ suc n + count = omega arith in
      bool_cases (f n)
      (λ q. rw (one_left n e (omega arith), first_from, q, s, add-one n) (first-later (suc n) count e (omega arith) (omega arith) (rw q at z)))
      (λ q. let y : n ≡ 0 = rw q at z in absurd (omega arith))

  pub first-sooner : (n count e : ℕ) {k : ℕ} → n + count ≤ e → k ≡ first_from f n count → k ≢ 0 → first_from f n (e - n) ≡ k
  unfolding first_from
  first-sooner n zero e le z y = absurd (y z)
  first-sooner n (suc count) e le z y =
      bool_cases (f n)
      (λ q. rw (one_left n e (omega arith), first_from, q, add-one n) (first-sooner (suc n) count e (omega arith) (rw q at z) y))
      (λ q. rw (one_left n e (omega arith), first_from, q) (sym (rw q at z)))

-- tests that agree find the same number
pub first-same : (f g : ℕ → Bool) (n left : ℕ) → ((j : ℕ) → n ≤ j → j < n + left → f j ≡ g j) → first_from f n left ≡ first_from g n left
unfolding first_from
first-same f g n zero h = refl
first-same f g n (suc left) h =
    rw (h n (omega arith) (omega arith), first-same f g (suc n) left (λ j lo hi. h j (omega arith) (omega arith)))
