-- Pairs as bits: of some properties, the pairs whose first is one of them, and those whose second is. No public promise names these.
-- Assumes nothing.
use Rattle.std.specs.Prelude.{◌≡◌, ◌+◌, ℕ, eqb, ltb, Bool, ◌&&◌, not, List, bit_and}
use Rattle.std.specs.Int.{bit_at}
use Rattle.std.specs.Int.RustNames.{bit_or}
use Rattle.base.specs.Range.{bit}
use Rattle.pairs.specs.Pairs.{one_of, other_of, pair_count}
use Rattle.pairs.specs.declared.sides.Sides.{Sides}

-- bit i of each word is 1 exactly where pair i + 1 is of the list, and that property of it passes the test
pub record Marks (P : List ℕ) (has : ℕ → Bool) (s : Sides) : Type 0 where
  pub firsts : (i : ℕ) → bit_at s.first i ≡ bit (ltb i (pair_count P) && has (one_of P (i + 1)))
  pub seconds : (i : ℕ) → bit_at s.second i ≡ bit (ltb i (pair_count P) && has (other_of P (i + 1)))

abbrev pub no_sides : Sides
no_sides = record { first = 0; second = 0 }

abbrev pub joined : Sides → Sides → Sides
joined s t = record { first = bit_or s.first t.first; second = bit_or s.second t.second }

-- some pair has one of its properties in s and the other in t
unfoldable pub excluding : Sides → Sides → Bool
excluding s t = not (eqb (bit_or (bit_and s.first t.second) (bit_and s.second t.first)) 0)
