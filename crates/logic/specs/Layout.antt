-- A tree written as rows, breadth first: the entries of one owner after the other, owners in the order in which they stand.
-- Assumes nothing.
use Rattle.std.specs.Prelude.{◌+◌, suc, zero, ℕ, List, [], ◌∷◌}
use Rattle.logic.specs.Tree.{Row, Tree, end, leaf, leaf_row, node, node_row}

-- what is still to be written, first to last: an owner's number, and what it owns
pub data Queue (X : Type 0) : Type 0 where
  done : Queue X
  job : ℕ → X → Queue X → Queue X

-- one job more, at the end
unfoldable pub later : {X : Type 0} → Queue X → ℕ → X → Queue X
later done o x = job o x done
later (job o' x' q) o x = job o' x' (later q o x)

module _ {A B : Type 0} where
  -- the steps that it takes to write a tree: one for each entry, and one for the end of each place
  unfoldable pub weight : Tree A B → ℕ
  weight end = 1
  weight (leaf a r) = suc (weight r)
  weight (node b s r) = suc (weight s + weight r)

  -- the rows of the jobs, counted from k, in at most so many steps
  unfoldable pub lay : ℕ → ℕ → Queue (Tree A B) → List (Row A B)
  lay zero k q = []
  lay (suc f) k done = []
  lay (suc f) k (job o end q) = lay f k q
  lay (suc f) k (job o (leaf a r) q) = leaf_row o a ∷ lay f (suc k) (job o r q)
  lay (suc f) k (job o (node b s r) q) = node_row o b ∷ lay f (suc k) (job o r (later q k s))

  -- the rows of a tree, whose top the number 0 owns
  unfoldable pub write : Tree A B → List (Row A B)
  write t = lay (weight t) 1 (job 0 t done)
