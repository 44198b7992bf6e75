-- Trees of entries, and the rows of entries with owners that they are read from. Descriptions and specimens are two uses.
-- Assumes nothing.
use Rattle.std.specs.Prelude.{cond, List, [], ◌∷◌, ℕ, suc, ◌<◌, eqb}

-- The entries of one owner, in a row: `end`; an entry that owns nothing, then the rest; an entry with what it owns,
-- then the rest. [E8] the entries of one owner are a place.
pub data Tree (A B : Type 0) : Type 0 where
  end : Tree A B
  leaf : A → Tree A B → Tree A B
  node : B → Tree A B → Tree A B → Tree A B

-- an entry with its owner: one that owns nothing, or one that may own others
pub data Row (A B : Type 0) : Type 0 where
  leaf_row : ℕ → A → Row A B
  node_row : ℕ → B → Row A B

module _ {A B : Type 0} where
  abbrev pub row_owner : Row A B → ℕ
  row_owner (leaf_row o a) = o
  row_owner (node_row o b) = o

  -- each row's owner has a lower number, where the rows count from k
  abbrev pub Early : ℕ → List (Row A B) → Type 0
  Early k [] = Unit {0}
  Early k (r ∷ rs) = (row_owner r < k) × Early (suc k) rs

  -- what the entry of number o owns, among the rows that count from k
  unfoldable pub tree : ℕ → List (Row A B) → ℕ → Tree A B
  tree k [] o = end
  tree k (leaf_row o' a ∷ rs) o = cond (eqb o o') (leaf a (tree (suc k) rs o)) (tree (suc k) rs o)
  tree k (node_row o' b ∷ rs) o = cond (eqb o o') (node b (tree (suc k) rs k) (tree (suc k) rs o)) (tree (suc k) rs o)
