-- [S6] excluding properties: the list of pairs, when it is refused, and the background that it stands for.
-- Assumes nothing.
use Rattle.std.specs.Prelude.{◌%◌, ◌*◌, ◌+◌, ◌-◌, ◌/◌, ℕ, eqb, ltb, length, Bool, ◌&&◌, ◌||◌, not, List, [], ◌∷◌}
use Rattle.base.specs.Range.{all}
use Rattle.blocks.specs.Faults.{Fault, fault, first, rows_from}
use Rattle.blocks.specs.Reading.{answer, Reading}
use Rattle.blocks.specs.Words.{word_at}
use Rattle.logic.specs.Background.{Background, standing}
use Rattle.blocks.specs.declared.Cause.TheVariants.{Pairs}

-- ---- the list

-- [S6] four bytes a pair: how many whole pairs a list has, and the two properties of pair i, counted from 1
unfoldable pub pair_count : List ℕ → ℕ
pair_count P = length P / 4

unfoldable pub one_of : List ℕ → ℕ → ℕ
one_of P i = word_at P (4 * (i - 1))

unfoldable pub other_of : List ℕ → ℕ → ℕ
other_of P i = word_at P (4 * (i - 1) + 2)

-- ---- number 11

-- [R11] a length that is no multiple of 4, or above 64 pairs
unfoldable pub list_wrong : List ℕ → Bool
list_wrong P = not (eqb (length P % 4) 0) || ltb 64 (pair_count P)

-- a pair with a 0, or one property twice [R11]
unfoldable pub pair_wrong : List ℕ → ℕ → Bool
pair_wrong P i = eqb (one_of P i) 0 || (eqb (other_of P i) 0 || eqb (one_of P i) (other_of P i))

-- the line of the table of refusals for pair i
abbrev pub pair_rows : List ℕ → ℕ → List Fault
pair_rows P i = fault (pair_wrong P i) Pairs i ∷ []

-- [R11] the length, at place 0, else the lowest wrong pair, at its place
unfoldable pub pair_faults : List ℕ → List Fault
pair_faults P = fault (list_wrong P) Pairs 0 ∷ rows_from (pair_rows P) 1 (pair_count P)

-- [R11] 11: what reading the list answers, its number of pairs where it is not refused
unfoldable pub pairs_reading : List ℕ → Reading
pairs_reading P = answer 0 (pair_count P) (first (pair_faults P))

-- ---- what it stands for

-- [S7] pair i is p and q; a pair has no direction
unfoldable pub is_pair : List ℕ → ℕ → ℕ → ℕ → Bool
is_pair P p q i = (eqb (one_of P i) p && eqb (other_of P i) q) || (eqb (one_of P i) q && eqb (other_of P i) p)

-- p and q exclude each other: not every pair is another one
unfoldable pub excludes_in : List ℕ → ℕ → ℕ → Bool
excludes_in P p q = not (all (λ i. not (is_pair P p q i)) 1 (pair_count P))

-- [S8] what records keep under a list: the standing rule on links, and that no item has both of a pair; under an
-- empty list the rule alone [S11]
abbrev pub under : List ℕ → Background
under P = record { cap = standing.cap; excludes = excludes_in P }
