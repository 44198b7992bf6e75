-- Numbers from 1 on, in buckets: the last of a bucket, and the chain on which each number points to the one before it in its bucket.
-- Assumes nothing.
use Rattle.std.specs.Prelude.{◌-◌, ◌<◌, ◌≤◌, suc, zero, ℕ, eqb, cond, ◌≢◌, ◌≡◌}

-- the last of the numbers 1 to n of which c gives b; 0 if there is none
unfoldable pub last_where : (ℕ → ℕ) → ℕ → ℕ → ℕ
last_where c b zero = 0
last_where c b (suc n) = cond (eqb (c (suc n)) b) (suc n) (last_where c b n)

-- Number k, of 1 to n, stands in bucket c k; there are `most` buckets. `head` gives the last number of each, `next` the one before a
-- number in its bucket, and 0 where there is none.
pub record Chains (c next head : ℕ → ℕ) (most n : ℕ) : Type 0 where
  pub last : (b : ℕ) → b < most → head b ≡ last_where c b n
  pub previous : (k : ℕ) → 1 ≤ k → k ≤ n → next k ≡ last_where c (c k) (k - 1)

-- a walk along the chain of bucket b has come to number k, or to the end
pub record OnChain (c : ℕ → ℕ) (b k n : ℕ) : Type 0 where
  pub bound : k ≤ n
  pub bucket : k ≢ 0 → c k ≡ b
