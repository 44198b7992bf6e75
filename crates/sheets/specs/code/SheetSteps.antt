-- Why an entry of a sheet is refused, by the level of its owner, as the pass over the entries takes it. No public
-- promise names this.
-- Assumes nothing.
use Rattle.std.specs.Prelude.{ℕ, cond, ◌&&◌, ◌||◌, ◌==◌, nat_le, Option, Some, None}
use Rattle.blocks.specs.code.ReadingSteps.{entry_refusal}
use Rattle.blocks.specs.declared.Cause.{Cause}
use Rattle.blocks.specs.declared.Cause.TheVariants.{Profile}
use Rattle.blocks.specs.declared.Entry.{Entry}
use Rattle.blocks.specs.declared.Schema.TheVariants.{Description}
use Rattle.sheets.specs.Sheet.{in_profile}

-- what is added to the number of an entry by its kind: at most 100 together where a look shows it to be in a sheet
abbrev pub head_start : ℕ → ℕ
head_start k = cond (k == 1 || k == 5) 100 (cond (k == 3 || k == 4) 1 (cond (k == 2) 101 102))

-- a cause, or else another
abbrev pub else_by : Option Cause → Option Cause → Option Cause
else_by (Some k) o = Some k
else_by None o = o

-- as in any description; else by the profile, where the owner's level is one more than the entry's depth
unfoldable pub sheet_refusal : Entry → ℕ → Option Cause
sheet_refusal e l = else_by (entry_refusal Description e l) (cond (in_profile e && nat_le l 4) None (Some Profile))
