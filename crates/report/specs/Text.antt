-- The bytes that the program prints: of a number, of a word, of a line, and of all lines.
-- Assumes nothing.
use Prim.Native.Char.{code}
use Rattle.std.specs.Prelude.{◌%◌, ◌+◌, ◌/◌, suc, zero, ℕ, ltb, cond, List, [], ◌++◌, ◌∷◌}
use Prim.Native.String as string
use Prim.Native.String.{String}
use Rattle.compare.specs.Answer.{Comparison}
use Rattle.report.specs.Lines.{Piece, answer_line, contained, count, field, group, has, input, link, not_contained, owner, pieces, place, property, refused, specimen_line, specimen_lines}
use Rattle.report.specs.declared.Line.{Line}

-- the bytes of a text of ASCII characters
abbrev pub ascii : String → List ℕ
ascii string.[] = []
ascii (string.◌∷◌ c s) = code c ∷ ascii s

-- ---- fields in decimal [Q4]

-- the digits of n, where `most` is at least their number: those of a tenth of it, and then its last digit; `0` to `9` are 48 to 57
unfoldable pub digits_of : ℕ → ℕ → List ℕ
digits_of zero n = []
digits_of (suc most) n = cond (ltb n 10) ((48 + n) ∷ []) (digits_of most (n / 10) ++ ((48 + n % 10) ∷ []))

unfoldable pub decimal : ℕ → List ℕ
decimal n = digits_of (suc n) n

-- ---- a line

abbrev pub piece_text : Piece → List ℕ
piece_text contained = ascii "contained"
piece_text not_contained = ascii "not contained"
piece_text refused = ascii "refused"
piece_text input = ascii "input"
piece_text place = ascii "place"
piece_text has = ascii "has"
piece_text group = ascii "group"
piece_text owner = ascii "owner"
piece_text property = ascii "property"
piece_text link = ascii "link"
piece_text count = ascii "count"
piece_text (field n) = decimal n

-- the pieces with a space between each two
abbrev pub spaced : List Piece → List ℕ
spaced [] = []
spaced (p ∷ []) = piece_text p
spaced (p ∷ (q ∷ ps)) = piece_text p ++ (ascii " " ++ spaced (q ∷ ps))

-- the words of a line, and with its end
unfoldable pub line_words : Line → List ℕ
line_words l = spaced (pieces l)

unfoldable pub line_text : Line → List ℕ
line_text l = line_words l ++ ascii "\n"

-- ---- all lines

-- line n of an answer, where `out` is the output: line 0 is the answer's, and then there is one for each specimen entry
unfoldable pub line_of : Comparison → List ℕ → ℕ → Line
line_of a out zero = answer_line a
line_of a out (suc n) = specimen_line out (specimen_lines a) (suc n)

-- lines, one after the other
unfoldable pub lines_text : List Line → List ℕ
lines_text [] = []
lines_text (l ∷ ls) = line_text l ++ lines_text ls

-- ---- the input

-- [Q1] at most 16,385 bytes of standard input
abbrev pub input_bytes : ℕ
input_bytes = 16385
