-- Entries that stand packed in a table, as a description. No public promise names these.
-- Assumes nothing.
use Rattle.std.specs.Prelude.{ℕ, List, map}
use Rattle.blocks.specs.Encoding.{encode}
use Rattle.blocks.specs.declared.Entry.{Entry}
use Rattle.unfolding.specs.code.Rows.{entry_of_row}

-- the entries that the numbers of a table stand for
abbrev pub listed_in : List ℕ → List Entry
listed_in rows = map entry_of_row rows

-- the blocks that they would be written as, of which the contracts of slots speak; nobody writes them
abbrev pub rows_bytes : List ℕ → List ℕ
rows_bytes rows = encode (listed_in rows)
