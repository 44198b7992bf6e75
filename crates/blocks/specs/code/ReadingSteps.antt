-- The steps of the passes over blocks and entries, as the code takes them. No public promise names them: proofs/ ties them to
-- the table of refusals and to the encoding.
-- Assumes nothing.
use Rattle.std.specs.Prelude.{◌≡◌, ℕ, ◌+◌, ◌<◌, ◌≤◌, cond, List, [], ◌∷◌, ◌++◌, length, ◌==◌, nat_lt, slice_index, Option, Some, None}
use Rattle.blocks.specs.Entries.{form_ok, names_ok, owning_kind}
use Rattle.blocks.specs.Faults.{Fault, depth_row, form_row, name_row, owner_row, rows_from}
use Rattle.blocks.specs.Frame.{Frame, check_wrong, frame_wrong}
use Rattle.blocks.specs.Owners.{level_of, owner_of}
use Rattle.blocks.specs.declared.Cause.{Cause}
use Rattle.blocks.specs.declared.Cause.TheVariants.{Check, Framing, Form, Owner, Depth, Name}
use Rattle.blocks.specs.declared.Entry.{Entry}
use Rattle.blocks.specs.declared.Schema.TheVariants.{Description, Named, Specimen}
use Rattle.blocks.specs.declared.Schema.{Schema}

-- why block i of n is refused, 2 before 3, if it is
unfoldable pub block_refusal : Frame → List ℕ → ℕ → ℕ → Option Cause
block_refusal F s n i = cond (check_wrong s i) (Some Check) (cond (frame_wrong F s n i) (Some Framing) None)

-- number 13 where entries may be names
abbrev pub name_rows : Schema → List Entry → ℕ → List Fault
name_rows Description es n = []
name_rows Specimen es n = []
name_rows (Named most) es n = name_row most es n ∷ []

-- numbers 4, 13, 5 and 6 alone, of entry n and of `left` entries from entry n on: those that one pass with a table of levels finds
abbrev pub rule_rows : Schema → List Entry → ℕ → List Fault
rule_rows σ es n = form_row σ es n ∷ (name_rows σ es n ++ (owner_row σ es n ∷ depth_row es n ∷ []))

abbrev pub rule_faults : Schema → List Entry → ℕ → ℕ → List Fault
rule_faults σ es n left = rows_from (rule_rows σ es) n left

-- the level of owner o of entry n, from a table of the levels of the entries before n
unfoldable pub level_by : List ℕ → ℕ → ℕ → ℕ
level_by t n o = cond (nat_lt o n) (slice_index t o) 0

-- a table that has a number for each entry holds the level of each before entry n, and their owners stand earlier
pub record Levels (σ : Schema) (es : List Entry) (t : List ℕ) (n : ℕ) : Type 0 where
  pub room : length es < length t
  pub right : (k : ℕ) → k < n → slice_index t k ≡ level_of σ es k
  pub early : (k : ℕ) → 1 ≤ k → k < n → owner_of es k < k

-- why an entry is refused whose owner has level l, 4 before 13 before 5 before 6, if it is
unfoldable pub entry_refusal : Schema → Entry → ℕ → Option Cause
entry_refusal σ e l = cond (form_ok σ e) (cond (names_ok σ e) (cond (l == 0) (Some Owner) (cond (nat_lt 33 l) (Some Depth) None)) (Some Name)) (Some Form)

-- the level of an entry of this kind whose owner has level l
unfoldable pub level_under : Schema → ℕ → ℕ → ℕ
level_under σ kind l = cond (kind == owning_kind σ) (l + 1) 0
