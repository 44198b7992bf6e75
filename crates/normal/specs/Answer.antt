-- The normal form's answer, and its output, for the records that keep a background, and under a list of pairs.
-- Assumes nothing.
use Rattle.std.specs.Prelude.{◌*◌, ℕ, ltb, drop, length, cond, List, ◌++◌, Ok, Err}
use Rattle.blocks.specs.Encoding.{blocks_for, encode}
use Rattle.blocks.specs.Entries.{entries_of}
use Rattle.blocks.specs.Frame.{plain}
use Rattle.blocks.specs.Reading.{reading_of, Reading}
use Rattle.blocks.specs.Refusals.{number_of, refused, unless_refused}
use Rattle.blocks.specs.declared.Schema.TheVariants.{Description}
use Rattle.logic.specs.Background.{Background}
use Rattle.meaning.specs.NormalEntries.{normal_entries}
use Rattle.pairs.specs.Pairs.{pairs_reading, under}
use Rattle.blocks.specs.declared.Cause.TheVariants.{Room}

-- [N14] one input, and an output as long; 7 otherwise, [R23] at input 0. [N15] the answer is the number of entries
abbrev pub room_of : Background → List ℕ → List ℕ → Reading
room_of b d out = cond (ltb (length out) (length d)) (refused Room 0 0) (Ok (length (normal_entries b (entries_of d))))

abbrev pub read_of : Background → List ℕ → List ℕ → Reading → Reading
read_of b d out r = unless_refused Err r (room_of b d out)

-- [R25] the input first, 7 last
unfoldable pub normalise_under : Background → List ℕ → List ℕ → Reading
normalise_under b d out = read_of b d out (reading_of Description 1 d)

-- the output after each answer: [N15] blocks from the start; [N15] later bytes stay; a refusal leaves it as it was
-- [R21]
abbrev pub output_after : Background → List ℕ → List ℕ → Reading → List ℕ
output_after b d out (Ok k) = encode (normal_entries b (entries_of d)) ++ drop (512 * blocks_for plain k) out
output_after b d out (Err e) = out

unfoldable pub normalised_under : Background → List ℕ → List ℕ → List ℕ
normalised_under b d out = output_after b d out (normalise_under b d out)

-- ---- under a list of pairs

-- [R25] 11 before all else
unfoldable pub normalise_of : List ℕ → List ℕ → List ℕ → Reading
normalise_of P d out = unless_refused Err (pairs_reading P) (normalise_under (under P) d out)

unfoldable pub normalised_of : List ℕ → List ℕ → List ℕ → List ℕ
normalised_of P d out = output_after (under P) d out (normalise_of P d out)

-- [K6] The numbers of each case: the number of entries; the number returned, the input and the place. 0 where a case
-- has none.
pub record Returned : Type 0 where
  pub entries : ℕ
  pub number : ℕ
  pub input : ℕ
  pub place : ℕ

abbrev pub returned : Reading → Returned
returned (Ok k) = record { entries = k; number = 0; input = 0; place = 0 }
returned (Err e) = record { entries = 0; number = number_of e.cause; input = e.input; place = e.place }
