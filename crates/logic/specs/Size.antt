-- The number of entries of a tree, and its levels.
-- Assumes nothing.
use Rattle.std.specs.Prelude.{◌+◌, max, suc, ℕ}
use Rattle.logic.specs.Tree.{Tree, end, leaf, node}

-- a measure of trees: an entry counts 1, one that owns others 1 more than they, and `join` takes the entries of a place together
unfoldable pub measure : {A B : Type 0} → (ℕ → ℕ → ℕ) → Tree A B → ℕ
measure join end = 0
measure join (leaf a r) = join 1 (measure join r)
measure join (node x s r) = join (suc (measure join s)) (measure join r)

-- the number of entries
abbrev pub nodes : {A B : Type 0} → Tree A B → ℕ
nodes t = measure (λ m n. m + n) t

-- The number of levels: 0 for a place with no entries, else the greatest depth of an entry, and 1. [E9] how many
-- owners an entry has above it.
abbrev pub levels : {A B : Type 0} → Tree A B → ℕ
levels t = measure (λ m n. max m n) t
