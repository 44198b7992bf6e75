-- The lines of the third case and of a property, to their last byte.
-- Assumes nothing.
use Prim.Native.Nat.{◌+◌, ◌≤◌, ℕ}
use lib.ListN.{length, length-replicate}
use mathlib.Core.List.Memᴰ
use mathlib.Core.List.{List, [], ◌++◌, ◌∷◌}
use mathlib.Core.Path.{◌∙◌, ◌≡◌, ap, refl, sym}
use native.Mathlib.Omega.{arith}
use Rattle.blocks.proofs.RoundTrip.Decoding.{length-encode}
use Rattle.blocks.specs.Encoding.{blocks_for, encode}
use Rattle.blocks.specs.declared.Entry.{Entry}
use Rattle.compare.proofs.AnswerLaws.{empty-list, not-contained-ready}
use Rattle.named.proofs.SentLaws.{plain-answered}
use Rattle.compare.proofs.Cases.{lines-right}
use Rattle.logic.specs.Background.{standing}
use Rattle.meaning.specs.StarredCases.{compares, lines, outside}
use Rattle.report.proofs.Printed.{joined-printed, lines_for, printed}
use Rattle.report.proofs.PrintedText.{program-text}
use Rattle.report.proofs.WrittenLines.{lines-written}
use Rattle.report.specs.Lines.{entry_line, entry_lines, lines_of}
use Rattle.report.specs.Promise.{Prints, lent}
use Rattle.report.specs.Text.{ascii, decimal, digits_of, input_bytes, line_text, line_words, lines_text}
use Rattle.report.specs.declared.Line.TheVariants.{NotContained}

-- an entry of kind k, owner o, a name and a number
abbrev entry : ℕ → ℕ → ℕ → ℕ → Entry
entry k o name number = record { kind = k; reserved = 0; owner = o; name = name; number = number }

-- [Q3] the line of a property
pub property-line : line_text (entry_line 1 (entry 1 0 7 0)) ≡ ascii "has 1 owner 0 property 7\n"
unfolding entry_line line_text line_words decimal digits_of
property-line = refl

-- ---- the third case [C16]: C is `5,1 [3,2,1]`, D is `5,1 [3,2,1; 4,2,1]`

abbrev c₂ : List Entry
c₂ = entry 5 0 1 0 ∷ entry 3 1 2 1 ∷ []

abbrev d₂ : List Entry
d₂ = entry 5 0 1 0 ∷ entry 3 1 2 1 ∷ entry 4 1 2 1 ∷ []

abbrev shown₂ : List Entry
shown₂ = entry 7 0 1 0 ∷ entry 7 1 2 1 ∷ []

-- [Q6] what it prints for the third case
abbrev text₂ : List ℕ
text₂ = ascii "not contained 3\ngroup 1 owner 0 link 1 count 1\ngroup 2 owner 1 link 2 count 2\n"

lines-text : lines_text (NotContained 3 ∷ entry_lines 1 shown₂) ≡ text₂
unfolding entry_lines entry_line lines_text line_text line_words decimal digits_of
lines-text = refl

room_for : (out : List ℕ) → 1024 ≤ length out → length (encode c₂) + length (encode d₂) ≤ length out
unfolding blocks_for
room_for out h = rw (length-encode c₂, length-encode d₂) (omega arith)

-- of the two descriptions, as blocks, joined on standard input
pub second-example : (out : List ℕ) → 1024 ≤ length out → lines_text (printed (encode c₂ ++ encode d₂) out) ≡ text₂
unfolding lines lines_of
second-example out h =
    let c = encode c₂ in
    let d = encode d₂ in
    let right = lines-right (compares c₂ d₂ (outside 3 shown₂)) (Memᴰ.tail (Memᴰ.tail (Memᴰ.head refl))) out (room_for out h) in
    let empty = empty-list c d out in
    let answer = sym empty.0 ∙ right.0 in
    let output = sym empty.1 ∙ right.1 in
    let ready = not-contained-ready standing c d out answer in
    let named = plain-answered c d out answer in
    let said = named.0 in
    let written = named.1 ∙ output in
    let shown : lines_for c d out ≡ NotContained 3 ∷ entry_lines 1 shown₂ = rw (lines_of, said, written, lines-written shown₂) in
    ap lines_text (joined-printed c d out ready.first_read ready.second-read ∙ shown) ∙ lines-text

-- so the program prints this
pub second-printed : {t : List ℕ} → Prints (encode c₂ ++ encode d₂) t → t ≡ text₂
second-printed p =
    program-text (encode c₂ ++ encode d₂) p ∙ second-example lent (omega (arith, length-replicate {A = ℕ} input_bytes 0))
