-- The lines that the program prints.
-- Assumes nothing.
use Rattle.std.specs.Prelude.{◌+◌, suc, zero, ℕ, eqb, cond, List, [], ◌∷◌, None, Some, Ok, Err}
use Rattle.blocks.specs.Entries.{entry_of}
use Rattle.blocks.specs.Refusals.{number_of}
use Rattle.blocks.specs.declared.Entry.{Entry}
use Rattle.compare.specs.Answer.{Comparison}
use Rattle.report.specs.declared.Line.{Line}
use Rattle.report.specs.declared.Line.TheVariants.{Contained, Group, Has, NotContained, Refused}

-- [Q3] contained, a refusal, or not contained: the first line
abbrev pub answer_line : Comparison → Line
answer_line (Ok None) = Contained
answer_line (Ok (Some n)) = NotContained n.entry
answer_line (Err e) = Refused e

-- [Q3] a line for each entry of the specimen: how many
abbrev pub specimen_lines : Comparison → ℕ
specimen_lines (Ok None) = 0
specimen_lines (Ok (Some n)) = n.entries
specimen_lines (Err e) = 0

-- [Q3] `has` or `group` with its entry number; [Q4] `count` is one more than what is stored: entry n
unfoldable pub entry_line : ℕ → Entry → Line
entry_line n e = cond (eqb e.kind 7) (Group n e.owner (record { 0 = e.name }) (e.number + 1)) (Has n e.owner (record { 0 = e.name }))

-- the line of entry n of the specimen in the blocks s that have `total` entries
unfoldable pub specimen_line : List ℕ → ℕ → ℕ → Line
specimen_line s total n = entry_line n (entry_of s total n)

-- [Q3] a line for each entry of the specimen: the lines of entries, of which the first has number n
unfoldable pub entry_lines : ℕ → List Entry → List Line
entry_lines n [] = []
entry_lines n (e ∷ es) = entry_line n e ∷ entry_lines (suc n) es

-- ---- all lines, in the order in which the program prints them

-- the lines of `left` entries from entry n on
unfoldable pub lines_from : List ℕ → ℕ → ℕ → ℕ → List Line
lines_from s total n zero = []
lines_from s total n (suc left) = specimen_line s total n ∷ lines_from s total (suc n) left

-- the lines of an answer, as those of the third case [Q6], where `out` is the output: [Q3] not contained, then a line
-- for each entry of the specimen
unfoldable pub lines_of : Comparison → List ℕ → List Line
lines_of a out = answer_line a ∷ lines_from out (specimen_lines a) 1 (specimen_lines a)

-- ---- the words of a line

-- a word, or a field in decimal [Q4]
pub data Piece : Type 0 where
  contained not_contained refused input place has group owner property link count : Piece
  field : ℕ → Piece

-- [Q3] the words of a refusal, of not contained, of a group, of a property
abbrev pub pieces : Line → List Piece
pieces Contained = contained ∷ []
pieces (NotContained e) = not_contained ∷ field e ∷ []
pieces (Refused e) = refused ∷ field (number_of e.cause) ∷ input ∷ field e.input ∷ place ∷ field e.place ∷ []
pieces (Has n o name) = has ∷ field n ∷ owner ∷ field o ∷ property ∷ field name.0 ∷ []
pieces (Group n o name items) = group ∷ field n ∷ owner ∷ field o ∷ link ∷ field name.0 ∷ count ∷ field items ∷ []
