-- What the answers of reading a sheet mean beside the reading of any description; and what is said of two sheets.
-- Assumes nothing.
use Rattle.std.specs.Prelude.{◌≡◌, ◌≢◌, ◌↔◌, ◌<◌, ◌≤◌, ℕ, true, List, ◌∷◌, length, Ok, ◌⊎◌}
use Rattle.blocks.specs.Entries.{entries_of}
use Rattle.blocks.specs.Faults.{block_faults, entry_rows, fault, length_wrong}
use Rattle.blocks.specs.Frame.{blocks_in, plain}
use Rattle.blocks.specs.Promise.{FirstOf, NoneApplies}
use Rattle.blocks.specs.Reading.{reading_of}
use Rattle.blocks.specs.Refusals.{refused}
use Rattle.blocks.specs.declared.Cause.{Cause}
use Rattle.blocks.specs.declared.Cause.TheVariants.{Length, Profile}
use Rattle.blocks.specs.declared.Schema.TheVariants.{Description}
use Rattle.logic.specs.Background.{Keeps, standing}
use Rattle.logic.specs.Record.{Record, fits}
use Rattle.meaning.specs.Description.{place_of}
use Rattle.narrow.specs.Profile.{InProfile, Sheet}
use Rattle.sheets.specs.Sheet.{sheet_faults, sheet_reading}

-- [W4] entry p of s is the lowest outside the profile, and no other line applies to the blocks, to an entry before it,
-- or to itself
pub record LowestOutside (s : List ℕ) (p : ℕ) : Type 0 where
  pub low : 1 ≤ p
  pub high : p ≤ length (entries_of s)
  pub outside : InProfile (entries_of s) p → ⊥
  pub before : (j : ℕ) → 1 ≤ j → j < p → InProfile (entries_of s) j
  pub blocks : NoneApplies
      (fault (length_wrong Description s) Length 0 ∷ block_faults plain s (blocks_in s) 0 (blocks_in s))
  pub entries : (j : ℕ) → 1 ≤ j → j ≤ p → NoneApplies (entry_rows Description (entries_of s) j)

-- what reading s as a sheet answers
pub record SheetRead (s : List ℕ) : Type 0 where
  -- [R24, W3] it is refused exactly by the first line that applies, as input 1
  pub first : (k : Cause) (i p : ℕ) → (sheet_reading s ≡ refused k i p) ↔ ((i ≡ 1) × FirstOf (sheet_faults s) k p)
  -- [W2] it is accepted exactly where it is as a description, with as many entries, and each is in the profile
  pub accepted : (n : ℕ) → (sheet_reading s ≡ Ok n) ↔ ((reading_of Description 1 s ≡ Ok n) × Sheet (entries_of s))
  -- [W3] any refusal but 19 is that of the description
  pub others : (k : Cause) (i p : ℕ) → k ≢ Profile → sheet_reading s ≡ refused k i p
      → reading_of Description 1 s ≡ refused k i p
  -- [R19, W4] it is refused with 19 exactly at the lowest entry outside the profile, where no line applies sooner
  pub outside : (i p : ℕ) → (sheet_reading s ≡ refused Profile i p) ↔ ((i ≡ 1) × LowestOutside s p)

-- ---- two sheets

-- some item of some finite record that keeps the rule on single links [S1] fits s, which names nothing
pub record SomeItemFits (s : List ℕ) : Type 0 where
  pub shown : Record
  pub keeps : Keeps standing shown
  pub item : ℕ
  pub inside : item < shown.size
  pub fitting : fits shown (place_of (entries_of s) 0) item ≡ true

-- [W6] what s, the blocks of k entries that are written of the sheets a and b, is when it is read again
pub record SheetOfBoth (a b s : List ℕ) (k : ℕ) : Type 0 where
  -- it is accepted as a sheet, with k entries, exactly where some item fits at least one of the two
  pub accepted : (sheet_reading s ≡ Ok k) ↔ (SomeItemFits a ⊎ SomeItemFits b)
  -- where none does, it says that nothing fits, which no sheet does
  pub nothing : (SomeItemFits a ⊎ SomeItemFits b → ⊥) → sheet_reading s ≡ refused Profile 1 1
