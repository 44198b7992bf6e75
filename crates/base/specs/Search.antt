-- The search for a number that fails a test.
-- Assumes nothing.
use Rattle.std.specs.Prelude.{suc, zero, ℕ, Bool, cond}

-- the first of `left` numbers from n on that fails the test; 0 if none does
unfoldable pub first_from : (ℕ → Bool) → ℕ → ℕ → ℕ
first_from f n zero = 0
first_from f n (suc left) = cond (f n) (first_from f (suc n) left) n
