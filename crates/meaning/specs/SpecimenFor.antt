-- The specimen of a comparison, as entries.
-- Assumes nothing.
use Rattle.std.specs.Prelude.{ℕ, List, map}
use Rattle.blocks.specs.Entries.{nth}
use Rattle.blocks.specs.declared.Entry.{Entry}
use Rattle.logic.specs.Layout.{write}
use Rattle.logic.specs.Place.{Place}
use Rattle.logic.specs.SpecimenTree.{Group, SpecimenTree, group}
use Rattle.logic.specs.Tree.{Row, leaf_row, node_row}
use Rattle.logic.specs.Witness.{on, witness}
use Rattle.meaning.specs.Description.{atom_of, links_to}

-- a row of a specimen as an entry [E3]: has, or a group, whose number is one less than its items
abbrev pub row_entry : Row ℕ Group → Entry
row_entry (leaf_row o p) = record { kind = 1; reserved = 0; owner = o; name = p; number = 0 }
row_entry (node_row o (group l n)) = record { kind = 7; reserved = 0; owner = o; name = l; number = n }

-- the entries of a specimen: [C12] the specimen ascends
unfoldable pub specimen_entries : SpecimenTree → List Entry
specimen_entries s = map row_entry (write s)

-- the specimen that the normal form t gives for entry n of D
unfoldable pub specimen_for : Place → List Entry → ℕ → List Entry
specimen_for t d n = specimen_entries (witness t (on (links_to d n) (atom_of (nth d n))))
