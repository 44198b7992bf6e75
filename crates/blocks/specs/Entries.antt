-- Entries: their bytes, and the table of kinds.
-- Assumes nothing.
use Rattle.std.specs.Prelude.{ℕ, zero, suc, ◌+◌, ◌*◌, ◌<◌, Bool, true, cond, not, ◌&&◌, ◌||◌, List, [], ◌∷◌, ◌++◌, ◌==◌, nat_le, nat_lt, slice_index, slice_index_or}
use Rattle.blocks.specs.Words.{word_at, word_bytes}
use Rattle.blocks.specs.Frame.{plain, entry_pos, total_in}
use Rattle.blocks.specs.declared.Entry.{Entry}
use Rattle.blocks.specs.declared.Schema.{Schema}
use Rattle.blocks.specs.declared.Schema.TheVariants.{Description, Named, Specimen}

-- ---- bytes

-- [E1] kind, a zero byte, owner, name, number: the entry whose bytes start at an offset
unfoldable pub entry_from : List ℕ → ℕ → Entry
entry_from s at = record {
  kind = slice_index s at;
  reserved = slice_index s (at + 1);
  owner = word_at s (at + 2);
  name = word_at s (at + 4);
  number = word_at s (at + 6);
}

-- an entry of kind k, owner o, a name and a number
abbrev pub entry : ℕ → ℕ → ℕ → ℕ → Entry
entry k o name number = record { kind = k; reserved = 0; owner = o; name = name; number = number }

-- the 8 bytes of an entry
unfoldable pub entry_bytes : Entry → List ℕ
entry_bytes e = e.kind ∷ e.reserved ∷ (word_bytes e.owner ++ (word_bytes e.name ++ word_bytes e.number))

-- each field fits its bytes, as the fields of any entry that a program holds do
pub record Bounded (e : Entry) : Type 0 where
  pub kind : e.kind < 256
  pub reserved : e.reserved < 256
  pub owner : e.owner < 65536
  pub name : e.name < 65536
  pub number : e.number < 65536

-- ---- lists of entries

-- entry n of an input
unfoldable pub entry_at : List ℕ → ℕ → Entry
entry_at s n = entry_from s (entry_pos plain n)

unfoldable pub entries_from : List ℕ → ℕ → ℕ → List Entry
entries_from s n zero = []
entries_from s n (suc left) = entry_at s n ∷ entries_from s (suc n) left

-- the entries of an input, first to last
unfoldable pub entries_of : List ℕ → List Entry
entries_of s = entries_from s 1 (total_in plain s)

-- an entry of zero bytes, which no table allows
abbrev pub zero_entry : Entry
zero_entry = record { kind = 0; reserved = 0; owner = 0; name = 0; number = 0 }

-- entry n of a list, counted from 1; the zero entry for 0 and past the end
unfoldable pub nth : List Entry → ℕ → Entry
nth es zero = zero_entry
nth es (suc k) = slice_index_or es k zero_entry

-- entry n of the blocks s that have `total` entries, read by number
unfoldable pub entry_of : List ℕ → ℕ → ℕ → Entry
entry_of s total n = cond (nat_lt 0 n && nat_le n total) (entry_at s n) zero_entry

-- ---- the table of kinds

-- [B8] at most 16 blocks, of a specimen 32
abbrev pub limit_of : Schema → ℕ
limit_of Description = 16
limit_of Specimen = 32
limit_of (Named most) = 16

-- [E7] an 'every' owns in a description, a group in a specimen: the kind that may own entries
abbrev pub owning_kind : Schema → ℕ
owning_kind Description = 5
owning_kind Specimen = 7
owning_kind (Named most) = 5

-- [E4] kinds 1 to 6 in descriptions, 1 and 7 in specimens; and 9, where a dictionary can be named
abbrev pub kind_ok : Schema → ℕ → Bool
kind_ok Description k = nat_lt 0 k && nat_le k 6
kind_ok Specimen k = k == 1 || k == 7
kind_ok (Named most) k = k == 9 || (nat_lt 0 k && nat_le k 6)

-- the table's column Name: 1-65,535, for kind 6 0; for kind 9 any, since its name has a number of its own, 13
unfoldable pub name_ok : ℕ → ℕ → Bool
name_ok k name = cond (k == 6) (name == 0) (nat_lt 0 name || k == 9)

-- the table's column Number: free for kinds 3, 4 and 7, else 0
unfoldable pub number_ok : ℕ → ℕ → Bool
number_ok k number = (k == 3 || (k == 4 || k == 7)) || number == 0

unfoldable pub form_ok : Schema → Entry → Bool
form_ok σ e = kind_ok σ e.kind && (e.reserved == 0 && (name_ok e.kind e.name && number_ok e.kind e.number))

-- ---- names

-- [D3] a named entry stands for the description of its name
abbrev pub is_named : Entry → Bool
is_named e = e.kind == 9

-- the contrary of [R13]: names up to `most` may be given
unfoldable pub name_given : ℕ → Entry → Bool
name_given most e = not (is_named e) || (nat_lt 0 e.name && nat_le e.name most)

-- what a schema asks of names: nothing where no entry is one
abbrev pub names_ok : Schema → Entry → Bool
names_ok Description e = true
names_ok Specimen e = true
names_ok (Named most) e = name_given most e

-- ---- an entry as one number

-- its 8 bytes, low byte first
unfoldable pub packed : Entry → ℕ
packed e = e.kind + 256 * e.reserved + 65536 * e.owner + 4294967296 * e.name + 281474976710656 * e.number
