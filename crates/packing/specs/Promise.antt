-- What the promise of the packed number speaks of: the fields that are read back.
-- Assumes nothing.
use Rattle.std.specs.Prelude.{◌%◌, ◌/◌, ℕ, ◌≡◌}

-- [K5] which bits the fields have
pub record Fields (r answer number first second : ℕ) : Type 0 where
  pub low : r % 256 ≡ answer
  pub next : r / 256 % 256 ≡ number
  pub middle : r / 65536 % 65536 ≡ first
  pub high : r / 4294967296 ≡ second
