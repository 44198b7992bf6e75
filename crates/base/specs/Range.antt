-- Tests and sums over a range of numbers.
-- Assumes nothing.
use Rattle.std.specs.Prelude.{ℕ, zero, suc, ◌+◌, Bool, ◌&&◌, false, true}

-- f holds of each of n numbers from i on
unfoldable pub all : (ℕ → Bool) → ℕ → ℕ → Bool
all f i zero = true
all f i (suc n) = f i && all f (i + 1) n

-- the sum of f 0, f 1, .., n numbers
unfoldable pub sum : (ℕ → ℕ) → ℕ → ℕ
sum f zero = 0
sum f (suc n) = sum f n + f n

-- 1 where a test holds, else 0
abbrev pub bit : Bool → ℕ
bit true = 1
bit false = 0
