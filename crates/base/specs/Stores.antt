-- Stores in a row.
-- Assumes nothing.
use Rattle.std.specs.Prelude.{ℕ, suc, ◌*◌, List, [], ◌∷◌}
use Rattle.std.proofs.lemmas.List.Edits.{sets}

-- the list with the given elements stored from index i on
unfoldable pub stored : List ℕ → ℕ → List ℕ → List ℕ
stored l i xs = sets l i xs

-- a table with the given rows stored in it, 64 elements apart, from row k on
unfoldable pub rows_at : List ℕ → ℕ → List (List ℕ) → List ℕ
rows_at l k [] = l
rows_at l k (r ∷ rs) = rows_at (stored l (64 * k) r) (suc k) rs
