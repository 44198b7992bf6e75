-- The answers of writing a description in the stored form and of reading it back, and the outputs that they leave.
-- Assumes nothing.
use Rattle.std.specs.Prelude.{ℕ, ◌*◌, ltb, drop, length, cond, List, ◌++◌, Ok, Err}
use Rattle.blocks.specs.Encoding.{blocks_for, encode}
use Rattle.blocks.specs.Entries.{entries_of}
use Rattle.blocks.specs.Frame.{Frame, plain, stored_frame}
use Rattle.blocks.specs.Reading.{Reading, reading_of}
use Rattle.blocks.specs.Refusals.{refused, unless_refused}
use Rattle.blocks.specs.declared.Cause.TheVariants.{Room}
use Rattle.blocks.specs.declared.Schema.TheVariants.{Description}
use Rattle.stored.specs.Stored.{encode_stored, stored_entries}
use Rattle.stored.specs.Walked.{walk_of}
use Rattle.stored.specs.Walking.{restored, stored_reading}

-- [T5] the refusals of the input; then an output shorter than the blocks of n entries; else their number
abbrev pub answered : Frame → Reading → ℕ → List ℕ → Reading
answered F r n out = unless_refused Err r (cond (ltb (length out) (512 * blocks_for F n)) (refused Room 0 0) (Ok n))

-- [T5] the output: a refusal leaves it, and else later bytes stay
abbrev pub left_after : Frame → Reading → (blocks : List ℕ) → ℕ → List ℕ → List ℕ
left_after F r blocks n out = unless_refused (λ e. out) (answered F r n out) (blocks ++ drop (512 * blocks_for F n) out)

-- a description, input 1, written in the stored form
unfoldable pub stored_of : List ℕ → List ℕ → Reading
stored_of d out = answered stored_frame (reading_of Description 1 d) (length (entries_of d)) out

unfoldable pub stored_in : List ℕ → List ℕ → List ℕ
stored_in d out =
    left_after stored_frame (reading_of Description 1 d) (encode_stored (walk_of (entries_of d)))
    (length (entries_of d)) out

-- a stored input, input 1, written as a description
unfoldable pub restored_of : List ℕ → List ℕ → Reading
restored_of s out = answered plain (stored_reading s) (length (stored_entries s)) out

unfoldable pub restored_in : List ℕ → List ℕ → List ℕ
restored_in s out =
    left_after plain (stored_reading s) (encode (restored (stored_entries s))) (length (stored_entries s)) out
