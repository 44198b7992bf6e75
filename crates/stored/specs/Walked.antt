-- Trees in walking order, each entry with its depth.
-- Assumes nothing.
use Rattle.std.specs.Prelude.{ℕ, suc, cond, eqb, List, [], ◌∷◌, ◌++◌, map}
use Rattle.blocks.specs.Entries.{entry}
use Rattle.blocks.specs.declared.Entry.{Entry}
use Rattle.logic.specs.Tree.{Row, Tree, end, leaf, leaf_row, node, node_row, tree}
use Rattle.stored.specs.declared.StoredEntry.{StoredEntry}

-- an entry with its depth: one that owns nothing, or one that may own others
pub data Mark (A B : Type 0) : Type 0 where
  leaf_at : ℕ → A → Mark A B
  node_at : ℕ → B → Mark A B

-- [T2] in walking order, each entry followed by what it owns, the entries of one owner by their numbers
unfoldable pub walked : {A B : Type 0} → ℕ → Tree A B → List (Mark A B)
walked d end = []
walked d (leaf a r) = leaf_at d a ∷ walked d r
walked d (node b s r) = node_at d b ∷ (walked (suc d) s ++ walked d r)

-- an entry without its owner
abbrev pub bare : Entry → Entry
bare e = entry e.kind 0 e.name e.number

-- the row of an entry: an 'every' may own others
unfoldable pub entry_row : Entry → Row Entry Entry
entry_row e = cond (eqb e.kind 5) (node_row e.owner (bare e)) (leaf_row e.owner (bare e))

-- what entry o owns, as a tree; of the top for o = 0
unfoldable pub entries_under : List Entry → ℕ → Tree Entry Entry
entries_under es o = tree 1 (map entry_row es) o

-- an entry with a depth in place of its owner
abbrev pub at_depth : ℕ → Entry → StoredEntry
at_depth d e = record { kind = e.kind; depth = d; name = e.name; number = e.number }

abbrev pub mark_stored : Mark Entry Entry → StoredEntry
mark_stored (leaf_at d e) = at_depth d e
mark_stored (node_at d e) = at_depth d e

-- [T2] the entries of a description as the stored form has them
unfoldable pub walk_of : List Entry → List StoredEntry
walk_of es = map mark_stored (walked 0 (entries_under es 0))
