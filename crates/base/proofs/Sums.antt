-- Laws of sums over a range.
-- Assumes nothing.
use Prim.Native.Nat.{◌*◌, ◌+◌, ◌<◌, ◌≤◌, suc, zero, ℕ}
use mathlib.Core.Path.{◌≡◌, refl}
use native.Mathlib.Nat.{add-suc, add-zero, mul-add, mul-zero}
use native.Mathlib.Omega.{arith}
use Rattle.base.specs.Range.{sum}

-- equal terms
pub sum-ext : (f g : ℕ → ℕ) (n : ℕ) → ((k : ℕ) → k < n → f k ≡ g k) → sum f n ≡ sum g n
unfolding sum
sum-ext f g zero h = refl
sum-ext f g (suc n) h = rw (sum-ext f g n (λ k l. h k (omega arith)), h n (omega arith))

-- the first m terms, and n more
pub sum-split : (f : ℕ → ℕ) (m n : ℕ) → sum f (m + n) ≡ sum f m + sum (λ k. f (m + k)) n
unfolding sum
sum-split f m zero = rw add-zero (omega arith)
sum-split f m (suc n) = rw add-suc (omega (arith, sum-split f m n))

-- the first term, and the rest
pub sum-front : (f : ℕ → ℕ) (n : ℕ) → sum f (suc n) ≡ f 0 + sum (λ k. f (suc k)) n
unfolding sum
sum-front f zero = omega arith
sum-front f (suc n) = omega (arith, sum-front f n)

-- terms of 0 add nothing
pub sum_past : (f : ℕ → ℕ) (m n : ℕ) → ((k : ℕ) → m ≤ k → f k ≡ 0) → sum f (m + n) ≡ sum f m
unfolding sum
sum_past f m zero h = rw add-zero
sum_past f m (suc n) h = rw add-suc (omega (arith, sum_past f m n h, h (m + n) (omega arith)))

-- term by term: two sums in one, and a common factor
pub sum-plus : (f g : ℕ → ℕ) (n : ℕ) → sum (λ k. f k + g k) n ≡ sum f n + sum g n
unfolding sum
sum-plus f g zero = refl
sum-plus f g (suc n) = omega (arith, sum-plus f g n)

pub sum-times : (q : ℕ) (f : ℕ → ℕ) (n : ℕ) → sum (λ k. q * f k) n ≡ q * sum f n
unfolding sum
sum-times q f zero = rw mul-zero
sum-times q f (suc n) = omega (arith, sum-times q f n, mul-add q (sum f n) (f n))
