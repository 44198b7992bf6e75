-- Field sheets: the profile as a test, the lines by which a sheet is refused, and what reading one answers.
-- Assumes nothing.
use Rattle.std.specs.Prelude.{ℕ, Bool, not, ◌&&◌, ◌||◌, List, [], ◌∷◌, ◌++◌, length, ◌==◌, nat_le}
use Rattle.blocks.specs.Entries.{entries_of, nth}
use Rattle.blocks.specs.Faults.{Fault, block_faults, entry_rows, fault, first, length_wrong, rows_from}
use Rattle.blocks.specs.Frame.{blocks_in, plain, total_in}
use Rattle.blocks.specs.Owners.{depth_of}
use Rattle.blocks.specs.Reading.{Reading, answer}
use Rattle.blocks.specs.declared.Cause.TheVariants.{Length, Profile}
use Rattle.blocks.specs.declared.Entry.{Entry}
use Rattle.blocks.specs.declared.Schema.TheVariants.{Description}

-- [W1] has, at least, at most and 'every'
unfoldable pub kind_in : ℕ → Bool
kind_in k = k == 1 || (k == 3 || (k == 4 || k == 5))

-- [W1] with a number of at most 99
unfoldable pub in_profile : Entry → Bool
in_profile e = kind_in e.kind && nat_le e.number 99

-- [W1] at most 3 links deep: entry n is in the profile
unfoldable pub sheet_ok : List Entry → ℕ → Bool
sheet_ok es n = in_profile (nth es n) && nat_le (depth_of es n) 3

-- [R19, W4] the lines of entry n: those of any description, and then number 19
abbrev pub sheet_rows : List Entry → ℕ → List Fault
sheet_rows es n = entry_rows Description es n ++ (fault (not (sheet_ok es n)) Profile n ∷ [])

-- [W3] number 1; then the lowest block that breaks 2 or 3; then the lowest entry that breaks 4, 5, 6 or 19
unfoldable pub sheet_faults : List ℕ → List Fault
sheet_faults s =
    fault (length_wrong Description s) Length 0
    ∷ (block_faults plain s (blocks_in s) 0 (blocks_in s) ++ rows_from (sheet_rows (entries_of s)) 1
    (length (entries_of s)))

-- [W2, W5] reading s as a sheet, which is input 1: its number of entries or a refusal
unfoldable pub sheet_reading : List ℕ → Reading
sheet_reading s = answer 1 (total_in plain s) (first (sheet_faults s))
