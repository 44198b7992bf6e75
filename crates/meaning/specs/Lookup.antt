-- The entry of an owner, a kind and a name.
-- Assumes nothing.
use Rattle.std.specs.Prelude.{suc, ℕ, eqb, ◌&&◌, cond, List, [], ◌∷◌}
use Rattle.blocks.specs.declared.Entry.{Entry}

-- the number of the first entry of an owner, a kind and a name, where the entries count from i; 0 if there is none
unfoldable pub first_match : ℕ → ℕ → ℕ → ℕ → List Entry → ℕ
first_match i v k n [] = 0
first_match i v k n (e ∷ es) = cond (eqb v e.owner && (eqb k e.kind && eqb n e.name)) i (first_match (suc i) v k n es)

abbrev pub entry_for : List Entry → ℕ → ℕ → ℕ → ℕ
entry_for es v k n = first_match 1 v k n es
