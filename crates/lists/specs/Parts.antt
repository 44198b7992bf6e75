-- Where the descriptions of a list begin: [L1] each block numbered 1 begins a description. The list is cut on the
-- stored numbers, before any block is checked.
-- Assumes nothing.
use Rattle.std.specs.Prelude.{◌*◌, ◌+◌, ◌-◌, ◌≤◌, suc, zero, ℕ, eqb, drop, length, take, cond, List, [], ◌∷◌, ◌≡◌}
use Rattle.blocks.specs.Frame.{blocks_in}
use Rattle.blocks.specs.Words.{word_at}

-- the offset of the first of `left` blocks from block i on, counted from 0, that has number 1; the whole length where none has
unfoldable pub division_from : List ℕ → ℕ → ℕ → ℕ
division_from s i zero = length s
division_from s i (suc left) = cond (eqb (word_at s (512 * i)) 1) (512 * i) (division_from s (suc i) left)

-- [Q2] C runs up to the first later block numbered 1, or is all: the length of C
unfoldable pub first_length : List ℕ → ℕ
first_length s = division_from s 1 (blocks_in s - 1)

-- C, and D is the rest [Q2]
abbrev pub first_part : List ℕ → List ℕ
first_part s = take (first_length s) s

abbrev pub second_part : List ℕ → List ℕ
second_part s = drop (first_length s) s

-- ---- all parts

-- [L1] the parts of a list: the first, and those of what is left; each has a byte, so that as many steps as there are
-- bytes are enough
unfoldable pub parts_from : ℕ → List ℕ → List (List ℕ)
parts_from zero s = []
parts_from (suc steps) s = cond (eqb (length s) 0) [] (first_part s ∷ parts_from steps (second_part s))

unfoldable pub parts_of : List ℕ → List (List ℕ)
parts_of s = parts_from (length s) s

-- the offset at which part n begins, counted from 0: behind n parts
unfoldable pub start_of : ℕ → List ℕ → ℕ
start_of zero s = 0
start_of (suc n) s = first_length s + start_of n (second_part s)

-- ---- meaning

-- [Q2] a later whole block numbered 1: block i, counted from 0
pub record Begins (s : List ℕ) (i : ℕ) : Type 0 where
  pub later : 1 ≤ i
  pub whole : 512 * i + 512 ≤ length s
  pub number : word_at s (512 * i) ≡ 1
