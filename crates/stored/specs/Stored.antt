-- Entries of the stored form: their bytes, those of an input, and as numbers.
-- Assumes nothing.
use Rattle.std.specs.Prelude.{ℕ, zero, suc, ◌+◌, ◌*◌, List, ◌∷◌, ◌++◌, map, slice_index, slice_index_or}
use Rattle.base.proofs.Lists.{listed}
use Rattle.blocks.specs.Encoding.{encode_rows}
use Rattle.blocks.specs.Entries.{entry}
use Rattle.blocks.specs.Frame.{entry_pos, stored_frame, total_in}
use Rattle.blocks.specs.Words.{word_at, word_bytes}
use Rattle.blocks.specs.declared.Entry.{Entry}
use Rattle.stored.specs.declared.StoredEntry.{StoredEntry}

-- [T1] kind, depth, name, number: the entry whose 6 bytes start at an offset
unfoldable pub stored_from : List ℕ → ℕ → StoredEntry
stored_from s at = record {
  kind = slice_index s at;
  depth = slice_index s (at + 1);
  name = word_at s (at + 2);
  number = word_at s (at + 4);
}

-- entry n of an input
unfoldable pub stored_at : List ℕ → ℕ → StoredEntry
stored_at s n = stored_from s (entry_pos stored_frame n)

-- the entries of an input, first to last
unfoldable pub stored_entries : List ℕ → List StoredEntry
stored_entries s = listed (stored_at s) 1 (total_in stored_frame s)

-- an entry of zero bytes, which no table allows
abbrev pub zero_stored : StoredEntry
zero_stored = record { kind = 0; depth = 0; name = 0; number = 0 }

-- entry n of a list, counted from 1; the zero entry for 0 and past the end
unfoldable pub stored_nth : List StoredEntry → ℕ → StoredEntry
stored_nth xs zero = zero_stored
stored_nth xs (suc k) = slice_index_or xs k zero_stored

-- the 6 bytes of an entry
unfoldable pub stored_bytes : StoredEntry → List ℕ
stored_bytes x = x.kind ∷ x.depth ∷ (word_bytes x.name ++ word_bytes x.number)

-- [T1] the entries as blocks, of 84 each
unfoldable pub encode_stored : List StoredEntry → List ℕ
encode_stored xs = encode_rows stored_frame (map stored_bytes xs)

-- an entry as one number: its 6 bytes, low byte first
unfoldable pub stored_packed : StoredEntry → ℕ
stored_packed x = x.kind + 256 * x.depth + 65536 * x.name + 4294967296 * x.number

-- the entry of a description that it is, where o owns it
abbrev pub owned_entry : ℕ → StoredEntry → Entry
owned_entry o x = entry x.kind o x.name x.number
