-- Laws of ranges, for a loop that counts i up to e, and what a test over a range means.
-- Assumes nothing.
use native.Mathlib.Omega.{arith}
use mathlib.Core.Path.{◌≡◌, refl}
use mathlib.Core.Bool.{Bool, true, false}
use Prim.Native.Nat.{ℕ, zero, suc, ◌+◌, ◌-◌, ◌≤◌, ◌<◌}
use Rattle.base.specs.Range.{all}
use Rattle.base.proofs.Tests.{and_left, and_right, and_both, eq-cases}

-- at the range's end nothing is left, and before it one number more
pub none_left : (i e : ℕ) → e ≤ i → e - i ≡ 0
none_left i e h = omega arith

pub one_left : (i e : ℕ) → i < e → e - i ≡ suc (e - (i + 1))
one_left i e h = omega arith

module _ (f : ℕ → Bool) (i e : ℕ) where
  pub all_end : e ≤ i → all f i (e - i) ≡ true
  unfolding all
  all_end h = rw (none_left i e h)

  pub all_yes : i < e → f i ≡ true → all f i (e - i) ≡ all f (i + 1) (e - (i + 1))
  unfolding all
  all_yes h y = rw (one_left i e h, all, y)

  pub all-no : i < e → f i ≡ false → all f i (e - i) ≡ false
  unfolding all
  all-no h y = rw (one_left i e h, all, y)

-- what holds of the whole range holds of each number in it, and the other way round
pub all-at : (f : ℕ → Bool) (i n : ℕ) → all f i n ≡ true → (k : ℕ) → i ≤ k → k < i + n → f k ≡ true
unfolding all
all-at f i zero e k lo hi = absurd (omega arith)
all-at f i (suc n) e k lo hi =
    eq-cases k i
    (λ q. rw q (and_left (f i) (all f (i + 1) n) e))
    (λ q. all-at f (i + 1) n (and_right (f i) (all f (i + 1) n) e) k (omega arith) (omega arith))

pub all_of : (f : ℕ → Bool) (i n : ℕ) → ((k : ℕ) → i ≤ k → k < i + n → f k ≡ true) → all f i n ≡ true
unfolding all
all_of f i zero h = refl
all_of f i (suc n) h =
    and_both (h i (omega arith) (omega arith)) (all_of f (i + 1) n (λ k lo hi. h k (omega arith) (omega arith)))

-- tests that agree on a range
pub all-ext : (f g : ℕ → Bool) (i n : ℕ) → ((k : ℕ) → i ≤ k → k < i + n → f k ≡ g k) → all f i n ≡ all g i n
unfolding all
all-ext f g i zero h = refl
all-ext f g i (suc n) h =
    rw (h i (omega arith) (omega arith), all-ext f g (i + 1) n (λ k lo hi. h k (omega arith) (omega arith)))
