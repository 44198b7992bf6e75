-- What the promises of the stored form speak of: by which line each call refuses, and what the bytes that it writes
-- are.
-- Assumes nothing.
use Rattle.std.specs.Prelude.{◌≡◌, ◌≢◌, ◌↔◌, ℕ, suc, ◌+◌, ◌*◌, ◌%◌, ◌<◌, ◌≤◌, drop, length, take, List, [], ◌∷◌, ◌++◌, ◌⊎◌, Ok}
use Rattle.base.specs.Exchange.{difference}
use Rattle.blocks.proofs.Format.WordBytes.{Bytes}
use Rattle.blocks.specs.Encoding.{blocks_for, encode, first_blocks}
use Rattle.blocks.specs.Entries.{entries_of, entry}
use Rattle.blocks.specs.Exchange.{EntriesExchanged, entry_words}
use Rattle.blocks.specs.Faults.{Fault, faults}
use Rattle.blocks.specs.Frame.{blocks_in, plain, stored_frame, used_in}
use Rattle.blocks.specs.Promise.{FirstOf, NoneApplies}
use Rattle.blocks.specs.Reading.{reading_of}
use Rattle.blocks.specs.declared.Cause.TheVariants.{Check, Room}
use Rattle.blocks.specs.declared.Cause.{Cause}
use Rattle.blocks.specs.Refusals.{refused}
use Rattle.blocks.specs.declared.Entry.{Entry}
use Rattle.blocks.specs.declared.Schema.TheVariants.{Description}
use Rattle.logic.specs.Record.{Record, fits}
use Rattle.meaning.specs.Description.{place_of}
use Rattle.stored.specs.Answer.{restored_in, restored_of, stored_in, stored_of}
use Rattle.stored.specs.Stored.{stored_entries}
use Rattle.stored.specs.Walked.{walk_of}
use Rattle.stored.specs.Walking.{restored, stored_faults, stored_reading}

-- [T5] refused: the first line of input 1 that applies; and 7 last, where the output is shorter than `size`
pub data RefusedBy (lines : List Fault) (size : ℕ) (out : List ℕ) : Cause → ℕ → ℕ → Type 0 where
  line : {k : Cause} {p : ℕ} → FirstOf lines k p → RefusedBy lines size out k 1 p
  short : NoneApplies lines → length out < size → RefusedBy lines size out Room 0 0

-- why a description is not written in the stored form, and why a stored input is not read back
abbrev pub StoreRefused : List ℕ → List ℕ → Cause → ℕ → ℕ → Type 0
StoreRefused d out = RefusedBy (faults Description d) (512 * blocks_for stored_frame (length (entries_of d))) out

abbrev pub RestoreRefused : List ℕ → List ℕ → Cause → ℕ → ℕ → Type 0
RestoreRefused s out = RefusedBy (stored_faults s) (512 * blocks_for plain (length (stored_entries s))) out

-- the blocks of n stored entries alone
abbrev pub stored_blocks : ℕ → List ℕ → List ℕ
stored_blocks n out = take (512 * blocks_for stored_frame n) out

-- What the answer that n entries of d are written in the stored form says of the output.
pub record Stores (d out : List ℕ) (n : ℕ) : Type 0 where
  -- as many as the description has; their blocks fit the output, and later bytes are unchanged
  pub count : n ≡ length (entries_of d)
  pub room : 512 * blocks_for stored_frame n ≤ length out
  pub later : drop (512 * blocks_for stored_frame n) (stored_in d out) ≡ drop (512 * blocks_for stored_frame n) out
  -- [T2] they are those in walking order
  pub entries : stored_entries (stored_blocks n (stored_in d out)) ≡ walk_of (entries_of d)
  -- [T6] the blocks are accepted in the stored form
  pub accepted : stored_reading (stored_blocks n (stored_in d out)) ≡ Ok n
  -- [T7] and read back they are these entries, in the same order
  pub back : (out' : List ℕ) → 512 * blocks_for plain n ≤ length out'
      → (restored_of (stored_blocks n (stored_in d out)) out' ≡ Ok n)
      × (entries_of (first_blocks n (restored_in (stored_blocks n (stored_in d out)) out'))
      ≡ restored (walk_of (entries_of d)))
  -- which the same items fit, in every record
  pub same : (R : Record) (x : ℕ)
      → fits R (place_of (restored (walk_of (entries_of d))) 0) x ≡ fits R (place_of (entries_of d) 0) x

-- What the answer that n entries of the stored input s are written as a description says of the output.
pub record Restores (s out : List ℕ) (n : ℕ) : Type 0 where
  pub count : n ≡ length (stored_entries s)
  pub room : 512 * blocks_for plain n ≤ length out
  pub later : drop (512 * blocks_for plain n) (restored_in s out) ≡ drop (512 * blocks_for plain n) out
  -- [T3] each with the nearest earlier entry of lesser depth as its owner
  pub entries : entries_of (first_blocks n (restored_in s out)) ≡ restored (stored_entries s)
  -- [T6] they are accepted as a description
  pub accepted : (i : ℕ) → reading_of Description i (first_blocks n (restored_in s out)) ≡ Ok n
  -- [T7] and written in the stored form again they are the same bytes
  pub back : (out' : List ℕ) → length s ≤ length out'
      → (stored_of (first_blocks n (restored_in s out)) out' ≡ Ok n)
      × (stored_in (first_blocks n (restored_in s out)) out' ≡ s ++ drop (length s) out')

-- ---- laws

-- [T8] two used entries of a block of an accepted stored input exchanged, p entries apart: refused as 2 exactly where p
-- times the difference of their word sums is no multiple of 65,536
abbrev pub StoredExchange : Type 0
StoredExchange =
    (s t : List ℕ) (n b e p : ℕ) → stored_reading s ≡ Ok n → b < blocks_in s → 1 ≤ p → e + p < used_in s b
    → EntriesExchanged stored_frame s t b e p
    → (stored_reading t ≡ refused Check 1 (suc b))
    ↔ ((p * difference (entry_words stored_frame s b e) (entry_words stored_frame s b (e + p))) % 65536 ≢ 0)

-- 'nothing fits', at the top
abbrev pub nothing : Entry
nothing = entry 6 0 0 0

-- an input that is accepted as a description, as input i, and in the stored form
pub record AcceptedBoth (i : ℕ) (s : List ℕ) : Type 0 where
  pub old : ℕ
  pub new : ℕ
  pub as-description : reading_of Description i s ≡ Ok old
  pub as-stored : stored_reading s ≡ Ok new

-- [T9] only two inputs are: the description of no entries, and 'nothing fits' alone; and both forms say the same of
-- each
abbrev pub BothForms : Type 0
BothForms =
    (s : List ℕ) → Bytes s → (i : ℕ)
    → (AcceptedBoth i s ↔ ((s ≡ encode []) ⊎ (s ≡ encode (nothing ∷ []))))
    × (AcceptedBoth i s → entries_of s ≡ restored (stored_entries s))
