-- A description's entries as a tree of places.
-- Assumes nothing.
use Rattle.std.specs.Prelude.{cond, List, [], ◌∷◌, ◌++◌, map, ℕ, zero, suc, eqb}
use Rattle.blocks.specs.Entries.{nth}
use Rattle.blocks.specs.Owners.{owner_of}
use Rattle.blocks.specs.declared.Entry.{Entry}
use Rattle.logic.specs.Place.{Atom, Place, atom, kind_of}
use Rattle.logic.specs.Tree.{Row, leaf_row, node_row, tree}

-- what an entry says, if it is no 'every'
abbrev pub atom_of : Entry → Atom
atom_of e = atom (kind_of e.kind) e.name e.number

-- the row of an entry
unfoldable pub row_of : Entry → Row Atom ℕ
row_of e = cond (eqb e.kind 5) (node_row e.owner e.name) (leaf_row e.owner (atom_of e))

-- the place that entry o owns; the top for o = 0
unfoldable pub place_of : List Entry → ℕ → Place
place_of es o = tree 1 (map row_of es) o

-- ---- paths

-- the links of the owners of entry n, from the top down, where the chain is followed for at most `steps` steps
unfoldable pub links_up : List Entry → ℕ → ℕ → List ℕ
links_up es zero n = []
links_up es (suc steps) n =
    cond (eqb (owner_of es n) 0) [] (links_up es steps (owner_of es n) ++ ((nth es (owner_of es n)).name ∷ []))

-- [C2] the links of its owners, from the top: the links to the place of entry n
unfoldable pub links_to : List Entry → ℕ → List ℕ
links_to es n = links_up es n n
