-- What a description with names means, with no unfolding in sight.
-- Assumes nothing.
use Rattle.std.specs.Prelude.{ℕ, eqb, Bool, ◌&&◌, cond, true, List, map}
use Rattle.blocks.specs.Entries.{is_named}
use Rattle.blocks.specs.declared.Entry.{Entry}
use Rattle.logic.specs.Record.{Record, each_linked, meets}
use Rattle.logic.specs.Tree.{Row, Tree, end, leaf, leaf_row, node, node_row, tree}
use Rattle.meaning.specs.Description.{atom_of}
use Rattle.names.specs.Unfold.{in_turn}

-- the row of an entry, which a name is too
unfoldable pub named_row : Entry → Row Entry ℕ
named_row e = cond (eqb e.kind 5) (node_row e.owner e.name) (leaf_row e.owner e)

-- the place that entry o owns, names among its entries; the top for o = 0
unfoldable pub named_place : List Entry → ℕ → Tree Entry ℕ
named_place es o = tree 1 (map named_row es) o

-- [D5] meets what it stands for: an item meets a named entry if it fits that description, where D tells which items
-- fit the description of a number
abbrev pub meets_named : Record → (ℕ → ℕ → Bool) → Entry → ℕ → Bool
meets_named c D e x = cond (is_named e) (D e.name x) (meets c (atom_of e) x)

-- which items fit a place, as without names
unfoldable pub fits_place : Record → (ℕ → ℕ → Bool) → Tree Entry ℕ → ℕ → Bool
fits_place c D end x = true
fits_place c D (leaf e r) x = meets_named c D e x && fits_place c D r x
fits_place c D (node l s r) x = each_linked c l x (λ y. fits_place c D s y) && fits_place c D r x

-- which items fit a description
abbrev pub fits_by : Record → (ℕ → ℕ → Bool) → List Entry → ℕ → Bool
fits_by c D es x = fits_place c D (named_place es 0) x

-- which items fit the n-th description of a dictionary; all of them for 0 and past the end
unfoldable pub fits_nth : Record → List (List Entry) → ℕ → ℕ → Bool
fits_nth c K = in_turn (fits_by c) (λ n x. true) 1 K

-- which items fit a description under a dictionary
unfoldable pub fits_named : Record → List (List Entry) → List Entry → ℕ → Bool
fits_named c K es x = fits_by c (fits_nth c K) es x
