-- The table of refusals: one predicate for each number, listed in the order in which they are looked for.
-- Assumes nothing.
use Rattle.std.specs.Prelude.{ℕ, zero, suc, ◌*◌, ◌%◌, Bool, true, false, not, ◌||◌, List, [], ◌∷◌, ◌++◌, length, ◌==◌, nat_lt}
use Rattle.blocks.specs.Frame.{Frame, plain, blocks_in, check_wrong, frame_wrong}
use Rattle.blocks.specs.Entries.{limit_of, form_ok, name_given, nth, entries_of}
use Rattle.blocks.specs.Owners.{owner_ok, depth_ok}
use Rattle.blocks.specs.Single.{single_ok}
use Rattle.blocks.specs.declared.Cause.{Cause}
use Rattle.blocks.specs.declared.Cause.TheVariants.{Length, Check, Framing, Form, Owner, Depth, Double, Name}
use Rattle.blocks.specs.declared.Entry.{Entry}
use Rattle.blocks.specs.declared.Schema.{Schema}
use Rattle.blocks.specs.declared.Schema.TheVariants.{Description, Named, Specimen}

-- a line of the table at one place: whether it applies, its number as a cause, and the place given [R22]
pub record Fault : Type 0 where
  pub applies : Bool
  pub cause : Cause
  pub place : ℕ

abbrev pub fault : Bool → Cause → ℕ → Fault
fault b k p = record { applies = b; cause = k; place = p }

-- [R1] the length is 0, no multiple of 512, or too much, which is so many blocks
abbrev pub length_over : ℕ → List ℕ → Bool
length_over most s = length s == 0 || (not (length s % 512 == 0) || nat_lt (512 * most) (length s))

unfoldable pub length_wrong : Schema → List ℕ → Bool
length_wrong σ s = length_over (limit_of σ) s

-- numbers 2 and 3 of `left` blocks from block i on, of n: [R24] the lowest block decides, 2 before 3
unfoldable pub block_faults : Frame → List ℕ → ℕ → ℕ → ℕ → List Fault
block_faults F s n i zero = []
block_faults F s n i (suc left) =
    fault (check_wrong s i) Check (suc i) ∷ fault (frame_wrong F s n i) Framing (suc i) ∷ block_faults F s n (suc i) left

-- numbers 1 to 3 of an input that may have so many blocks
abbrev pub frame_faults : Frame → ℕ → List ℕ → List Fault
frame_faults F most s = fault (length_over most s) Length 0 ∷ block_faults F s (blocks_in s) 0 (blocks_in s)

-- the lines of entry n by the entries: [R4] form, [R13] name, [R5] owner, [R6] depth, [R9] a single link twice
abbrev pub form_row : Schema → List Entry → ℕ → Fault
form_row σ es n = fault (not (form_ok σ (nth es n))) Form n

abbrev pub name_row : ℕ → List Entry → ℕ → Fault
name_row most es n = fault (not (name_given most (nth es n))) Name n

abbrev pub owner_row : Schema → List Entry → ℕ → Fault
owner_row σ es n = fault (not (owner_ok σ es n)) Owner n

abbrev pub depth_row : List Entry → ℕ → Fault
depth_row es n = fault (not (depth_ok es n)) Depth n

abbrev pub single_row : List Entry → ℕ → Fault
single_row es n = fault (not (single_ok es n)) Double n

-- the lines that an entry of each schema may break, in their order: [R24] 4, then 5, then 6; 13 after 4, and 9 after
-- 6
abbrev pub entry_rows : Schema → List Entry → ℕ → List Fault
entry_rows Description es n = form_row Description es n ∷ owner_row Description es n ∷ depth_row es n ∷ []
entry_rows (Named most) es n = form_row (Named most) es n ∷ name_row most es n ∷ owner_row (Named most) es n ∷ depth_row es n ∷ []
entry_rows Specimen es n = form_row Specimen es n ∷ owner_row Specimen es n ∷ depth_row es n ∷ single_row es n ∷ []

-- the lines of `left` entries from entry n on, by the lines of each
unfoldable pub rows_from : (ℕ → List Fault) → ℕ → ℕ → List Fault
rows_from rows n zero = []
rows_from rows n (suc left) = rows n ++ rows_from rows (suc n) left

-- [R24] the lowest entry decides, 4 before 5 before 6, or a further line of the schema
unfoldable pub entry_faults : Schema → List Entry → ℕ → ℕ → List Fault
entry_faults σ es n left = rows_from (entry_rows σ es) n left

-- [R24] the length, then the lowest block, then the lowest entry. No line asks for an order of entries, or that equal
-- ones stand once [E10].
unfoldable pub faults : Schema → List ℕ → List Fault
faults σ s =
    fault (length_wrong σ s) Length 0 ∷ (block_faults plain s (blocks_in s) 0 (blocks_in s) ++ entry_faults σ (entries_of s) 1 (length (entries_of s)))

-- what a search for faults finds: none, or why and at which place
pub data Finding : Type 0 where
  Clean : Finding
  Faulty : Cause → ℕ → Finding

-- [R24] the first that applies
unfoldable pub first : List Fault → Finding
first [] = Clean
first (f ∷ fs) = elim f.applies [ true ↦ Faulty f.cause f.place | false ↦ first fs ]
