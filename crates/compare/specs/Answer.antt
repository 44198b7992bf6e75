-- The comparison's answer, and its output, for the records that keep a background, and under a list of pairs.
-- Assumes nothing.
use Rattle.std.specs.Prelude.{◌*◌, ◌+◌, ℕ, eqb, ltb, drop, length, Bool, cond, false, true, List, ◌++◌, None, Option, Some, Result, Ok, Err}
use Rattle.std.proofs.Math.Option as math
use Rattle.blocks.specs.Encoding.{blocks_for, encode}
use Rattle.blocks.specs.Entries.{entries_of}
use Rattle.blocks.specs.Frame.{plain}
use Rattle.blocks.specs.Reading.{reading_of, Reading}
use Rattle.blocks.specs.Refusals.{number_of, refused, unless_refused}
use Rattle.blocks.specs.declared.Refusal.{Refusal}
use Rattle.blocks.specs.declared.Entry.{Entry}
use Rattle.blocks.specs.declared.Schema.TheVariants.{Description}
use Rattle.compare.specs.declared.NotContained.{NotContained}
use Rattle.logic.specs.Background.{Background}
use Rattle.meaning.specs.Failing.{failing, specimen_of}
use Rattle.pairs.specs.Pairs.{pairs_reading, under}
use Rattle.blocks.specs.declared.Cause.TheVariants.{Room}

-- [C5] contained, [C6] not contained, with the entry that fails and the specimen's total, or a refusal
abbrev pub Comparison : Type 0
Comparison = Result (Option NotContained) Refusal

abbrev pub not_contained : ℕ → ℕ → Comparison
not_contained j k = Ok (Some (record { entry = j; entries = k }))

-- ---- two lists of entries

-- [C5] [C6] contained where all hold, else the entry that fails and the specimen's total
unfoldable pub verdict : Background → List Entry → List Entry → Comparison
verdict b c d = cond (eqb (failing b c d) 0) (Ok None) (not_contained (failing b c d) (length (specimen_of b c d)))

-- ---- two inputs

-- [C1] the output is as long as both together; 7 otherwise, [R23] at input 0
abbrev pub room_of : Background → List ℕ → List ℕ → List ℕ → Comparison
room_of b c d out = cond (ltb (length out) (length c + length d)) (refused Room 0 0) (verdict b (entries_of c) (entries_of d))

-- the answer where C is accepted, by what reading D answers
abbrev pub second_of : Background → List ℕ → List ℕ → List ℕ → Reading → Comparison
second_of b c d out r = unless_refused Err r (room_of b c d out)

abbrev pub first_of : Background → List ℕ → List ℕ → List ℕ → Reading → Comparison
first_of b c d out r = unless_refused Err r (second_of b c d out (reading_of Description 2 d))

-- [C1] input 1 is C, input 2 is D; [R25] input 1, then input 2, then 7
unfoldable pub compare_under : Background → List ℕ → List ℕ → List ℕ → Comparison
compare_under b c d out = first_of b c d out (reading_of Description 1 c)

-- the output after each answer: [C5] contained leaves the output; [C6] the specimen's blocks from the start, later
-- bytes stay; a refusal leaves it as it was [R21]
abbrev pub output_after : Background → List ℕ → List ℕ → List ℕ → Comparison → List ℕ
output_after b c d out (Ok None) = out
output_after b c d out (Ok (Some n)) = encode (specimen_of b (entries_of c) (entries_of d)) ++ drop (512 * blocks_for plain n.entries) out
output_after b c d out (Err e) = out

unfoldable pub output_under : Background → List ℕ → List ℕ → List ℕ → List ℕ
output_under b c d out = output_after b c d out (compare_under b c d out)

-- ---- under a list of pairs

-- [R25] 11 before all else
unfoldable pub compare_of : List ℕ → List ℕ → List ℕ → List ℕ → Comparison
compare_of P c d out = unless_refused Err (pairs_reading P) (compare_under (under P) c d out)

unfoldable pub output_of : List ℕ → List ℕ → List ℕ → List ℕ → List ℕ
output_of P c d out = output_after (under P) c d out (compare_of P c d out)

-- [K6] The numbers of each case: whether C is contained in D, and neither where an input is refused or the output too
-- short; the number of the first entry that fails and the number of specimen entries; the number returned, the input
-- and the place. 0 where a case has none.
pub record Returned : Type 0 where
  pub contained : math.Option Bool
  pub entry : ℕ
  pub entries : ℕ
  pub number : ℕ
  pub input : ℕ
  pub place : ℕ

abbrev pub returned : Comparison → Returned
returned (Ok None) = record { contained = math.some true; entry = 0; entries = 0; number = 0; input = 0; place = 0 }
returned (Ok (Some n)) = record { contained = math.some false; entry = n.entry; entries = n.entries; number = 0; input = 0; place = 0 }
returned (Err e) = record { contained = math.none; entry = 0; entries = 0; number = number_of e.cause; input = e.input; place = e.place }
