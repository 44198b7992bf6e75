-- The rows of a description's places as entries.
-- Assumes nothing.
use Rattle.std.specs.Prelude.{ℕ, eqb, ltb, Bool, ◌&&◌, ◌||◌}
use Rattle.blocks.specs.declared.Entry.{Entry}
use Rattle.logic.specs.Normal.{before, rank}
use Rattle.logic.specs.Place.{Atom, atom}
use Rattle.logic.specs.Tree.{Row, leaf_row, node_row}

-- the entry of a row
abbrev pub row_entry : Row Atom ℕ → Entry
row_entry (leaf_row o (atom a n m)) = record { kind = rank a; reserved = 0; owner = o; name = n; number = m }
row_entry (node_row o l) = record { kind = 5; reserved = 0; owner = o; name = l; number = 0 }

-- [E11] entries ascend by owner, then kind, then name: the first of two entries stands before the second
abbrev pub entry_before : Entry → Entry → Bool
entry_before e f = ltb e.owner f.owner || (eqb e.owner f.owner && before e.kind e.name f.kind f.name)
