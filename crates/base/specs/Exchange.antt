-- Two runs of terms exchanged, and how far two numbers are apart.
-- Assumes nothing.
use Rattle.std.specs.Prelude.{◌+◌, ◌-◌, ◌<◌, ◌≤◌, ℕ, ◌≡◌}

-- g is f with the runs of w terms at a and at c exchanged, where the first ends before the second starts
pub record Exchanged (f g : ℕ → ℕ) (w a c : ℕ) : Type 0 where
  pub first : (k : ℕ) → k < w → g (a + k) ≡ f (c + k)
  pub second : (k : ℕ) → k < w → g (c + k) ≡ f (a + k)
  pub before : (k : ℕ) → k < a → g k ≡ f k
  pub between : (k : ℕ) → a + w ≤ k → k < c → g k ≡ f k
  pub after : (k : ℕ) → c + w ≤ k → g k ≡ f k

-- the greater of two numbers less the other
abbrev pub difference : ℕ → ℕ → ℕ
difference m n = m - n + (n - m)
