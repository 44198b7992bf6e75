-- What the promises on lists of pairs speak of: where a list is refused, which list is not, and the records that keep it.
-- Assumes nothing.
use Rattle.std.specs.Prelude.{◌*◌, ◌<◌, ◌≤◌, ℕ, length, ◌&&◌, false, true, List, ◌⊎◌, ◌≡◌, Ok}
use Rattle.logic.specs.Record.{Record}
use Rattle.pairs.specs.Pairs.{list_wrong, one_of, other_of, pair_count, pair_wrong, pairs_reading}

-- [R11] the lowest wrong pair
pub record LowestWrong (P : List ℕ) (p : ℕ) : Type 0 where
  pub from : 1 ≤ p
  pub to : p ≤ pair_count P
  pub wrong : pair_wrong P p ≡ true
  pub before : (j : ℕ) → 1 ≤ j → j < p → pair_wrong P j ≡ false

-- the place of a refusal: [R11] 0 for the length, else the pair
abbrev pub WrongAt : List ℕ → ℕ → Type 0
WrongAt P p = ((list_wrong P ≡ true) × (p ≡ 0)) ⊎ ((list_wrong P ≡ false) × LowestWrong P p)

-- a list that 11 does not refuse [S12]
pub record ListRead (P : List ℕ) : Type 0 where
  pub count : ℕ
  pub list_read : pairs_reading P ≡ Ok count

-- what such a list of n pairs is: [S6] up to 64 pairs of four bytes
pub record RightList (P : List ℕ) (n : ℕ) : Type 0 where
  pub whole : length P ≡ 4 * n
  pub few : n ≤ 64
  pub right : (i : ℕ) → 1 ≤ i → i ≤ n → pair_wrong P i ≡ false

-- [S8] a record that keeps the list: no item of the record has both properties of a pair
pub record NoneHasBoth (P : List ℕ) (r : Record) : Type 0 where
  pub apart : (i x : ℕ) → 1 ≤ i → i ≤ pair_count P → x < r.size
      → (r.property (one_of P i) x && r.property (other_of P i) x) ≡ false
