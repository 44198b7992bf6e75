-- Entries as numbers in a lent table, packed as for writing: a number of 64 bits has the 8 bytes of an entry, low byte first.
-- Assumes nothing.
use Rattle.std.specs.Prelude.{◌%◌, ◌/◌, max, ℕ, take, cond, List, [], ◌∷◌, map}
use Rattle.blocks.specs.Entries.{is_named}
use Rattle.blocks.specs.declared.Entry.{Entry}

-- the entry of a number
unfoldable pub entry_of_row : ℕ → Entry
entry_of_row x = record {
  kind = x % 256;
  reserved = x % 65536 / 256;
  owner = x / 65536 % 65536;
  name = x / 4294967296 % 65536;
  number = x / 281474976710656;
}

-- the entries of the first n numbers of a table
abbrev pub entries_in : List ℕ → ℕ → List Entry
entries_in rows n = map entry_of_row (take n rows)

-- the greatest name among entries, or 0: that of what is opened is less each time
unfoldable pub greatest_name : List Entry → ℕ
greatest_name [] = 0
greatest_name (e ∷ es) = max (cond (is_named e) e.name 0) (greatest_name es)
