-- Which links lead to one item only: what crate blocks refuses and what crate logic's records keep go by this one test.
-- Assumes nothing.
use Rattle.std.specs.Prelude.{ℕ, leb, Bool}

-- [S1] links from 32,768 up are single: they lead to one item at most
abbrev pub is_single : ℕ → Bool
is_single l = leb 32768 l
