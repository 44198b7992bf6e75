-- The pairs in which each place has a property, as bits, and which slots mark a place. No public promise names these.
-- Assumes nothing.
use Rattle.std.specs.Prelude.{◌≡◌, ◌≢◌, ◌<◌, ◌%◌, ℕ, eqb, ltb, get_or, length, Bool, ◌&&◌, not, List}
use Rattle.pairs.specs.Pairs.{pair_count}
use Rattle.pairs.specs.code.Index.{bucket_of}
use Rattle.pairs.specs.code.Sides.{Marks, no_sides}
use Rattle.pairs.specs.declared.sides.Sides.{Sides}
use Rattle.passes.specs.code.Restrict.{has_at}
use Rattle.passes.specs.code.Slots.{Slot}
use Rattle.slots.specs.code.Tables.{key_in, low_part}

-- each place has the bits of the pairs of which it has a property, by the slots ss; a place past the marks has none
pub record MarkedBy (P : List ℕ) (ss : List Slot) (marks : List Sides) : Type 0 where
  pub each : (v : ℕ) → Marks P (has_at ss v) (get_or marks v no_sides)

-- no place is marked yet, and where the list has a pair there is a mark for each number up to n
pub record Unmarked (P : List ℕ) (n : ℕ) (marks : List Sides) : Type 0 where
  pub none : (v : ℕ) → get_or marks v no_sides ≡ no_sides
  pub room : pair_count P ≢ 0 → n < length marks

-- a slot is that of a property that its place has, and the index of the list has one in its bucket
unfoldable pub marked_slot : List ℕ → ℕ → Bool
marked_slot index x = not (eqb (get_or index (bucket_of (key_in x % 65536)) 0) 0) && (ltb (key_in x % 131072) 65536 && not (eqb (low_part x) 0))
