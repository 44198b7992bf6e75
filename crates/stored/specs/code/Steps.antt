-- Why a stored entry is refused, by the depth that the next may have at most; and the rows of a place in walking
-- order, as the code takes
-- them. No public promise names these.
-- Assumes nothing.
use Rattle.std.specs.Prelude.{◌≡◌, ℕ, ◌+◌, ◌*◌, ◌/◌, ◌≤◌, cond, List, map, length, nat_le, Option, Some, None}
use Rattle.blocks.specs.Entries.{form_ok}
use Rattle.blocks.specs.Owners.{depth_of, owner_of}
use Rattle.blocks.specs.declared.Cause.{Cause}
use Rattle.blocks.specs.declared.Cause.TheVariants.{Depth, Form, Walking}
use Rattle.blocks.specs.declared.Entry.{Entry}
use Rattle.blocks.specs.declared.Schema.TheVariants.{Description}
use Rattle.stored.specs.Stored.{owned_entry, stored_packed}
use Rattle.stored.specs.Walked.{Mark, entries_under, mark_stored, walked}
use Rattle.stored.specs.declared.StoredEntry.{StoredEntry}

-- 4 before 15 before 6
unfoldable pub stored_refusal : StoredEntry → ℕ → Option Cause
stored_refusal x most =
    cond (form_ok Description (owned_entry 0 x))
    (cond (nat_le x.depth most) (cond (nat_le x.depth 32) None (Some Depth)) (Some Walking)) (Some Form)

-- all blocks of n stored entries are there
abbrev pub There : List ℕ → ℕ → Type 0
There s n = 512 * ((n + 83) / 84) ≤ length s

-- the entries that o owns have depth d
abbrev pub DeepAt : List Entry → ℕ → ℕ → Type 0
DeepAt es o d = (n : ℕ) → 1 ≤ n → n ≤ length es → owner_of es n ≡ o → depth_of es n ≡ d

-- a mark as a row
abbrev pub mark_packed : Mark Entry Entry → ℕ
mark_packed m = stored_packed (mark_stored m)

-- the rows of the place that o owns, whose entries have depth d
abbrev pub packed_walk : List Entry → ℕ → ℕ → List ℕ
packed_walk es o d = map mark_packed (walked d (entries_under es o))
