-- How many entries a description with names has once unfolded, and how deep they stand: worked out without unfolding it.
-- Assumes nothing.
use Rattle.std.specs.Prelude.{◌+◌, max, suc, zero, ℕ, cond, List, [], ◌∷◌}
use Rattle.blocks.specs.Entries.{is_named}
use Rattle.blocks.specs.declared.Entry.{Entry}
use Rattle.names.specs.Unfold.{in_turn, noted}

-- ---- entries

-- a name counts as many as it stands for, by S, and any other entry 1
unfoldable pub size_by : (ℕ → ℕ) → List Entry → ℕ
size_by S [] = 0
size_by S (e ∷ es) = cond (is_named e) (S e.name) 1 + size_by S es

-- of the n-th description of a dictionary; none for 0 and past the end
unfoldable pub size_nth : List (List Entry) → ℕ → ℕ
size_nth K = in_turn size_by (λ n. 0) 1 K

-- of a description under a dictionary
unfoldable pub size_named : List (List Entry) → List Entry → ℕ
size_named K es = size_by (size_nth K) es

-- ---- levels

-- l levels put in at depth d; no level is none at any depth
abbrev pub under : ℕ → ℕ → ℕ
under d zero = 0
under d (suc l) = d + suc l

-- The levels of entries that count from k: 0 if there are none, else the greatest depth of an entry, and 1. A name has as many levels at
-- its depth as it stands for, by L, and any other entry 1; δ gives the depth of what an owner owns.
unfoldable pub levels_from : (ℕ → ℕ) → (ℕ → ℕ) → ℕ → List Entry → ℕ
levels_from L δ k [] = 0
levels_from L δ k (e ∷ es) =
    max (under (δ e.owner) (cond (is_named e) (L e.name) 1)) (levels_from L (noted δ k (suc (δ e.owner))) (suc k) es)

abbrev pub levels_by : (ℕ → ℕ) → List Entry → ℕ
levels_by L es = levels_from L (λ j. 0) 1 es

-- of a list as it stands
abbrev pub levels_of : List Entry → ℕ
levels_of es = levels_by (λ n. 1) es

-- of the n-th description of a dictionary; none for 0 and past the end
unfoldable pub levels_nth : List (List Entry) → ℕ → ℕ
levels_nth K = in_turn levels_by (λ n. 0) 1 K

-- of a description under a dictionary
unfoldable pub levels_named : List (List Entry) → List Entry → ℕ
levels_named K es = levels_by (levels_nth K) es
