-- What the program writes, to its last byte: by the input, and by the answer.
-- Assumes nothing.
use Prim.Native.Nat.{◌+◌, ◌<◌, ◌≤◌, suc, ℕ}
use lib.ListN.{drop, length, length-append, length-replicate, take}
use lib.Seq.{take-append_seam}
use mathlib.Core.List.{List, [], ◌++◌, append_assoc, append-nil}
use mathlib.Core.Logic.{◌≢◌}
use mathlib.Core.Path.{◌∙◌, ◌≡◌, ap, ap₂, refl, sym}
use native.Mathlib.Omega.{arith}
use Rattle.std.specs.Prelude.{None, Ok, Err}
use Rattle.base.proofs.Tests.{eq-eqb, ne_eqb}
use Rattle.blocks.specs.Entries.{entries_of}
use Rattle.blocks.specs.Reading.{reading_of}
use Rattle.blocks.specs.Refusals.{number_of}
use Rattle.blocks.specs.declared.Refusal.{Refusal}
use Rattle.blocks.specs.declared.Entry.{Entry}
use Rattle.blocks.specs.declared.Schema.TheVariants.{Description}
use Rattle.compare.specs.Answer.{Comparison, not_contained}
use Rattle.lists.proofs.FirstPart.{parts_join}
use Rattle.lists.specs.Parts.{first_part, second_part}
use Rattle.logic.specs.Background.{standing}
use Rattle.meaning.specs.Failing.{specimen_of}
use Rattle.named.specs.Answer.{compare_named}
use Rattle.report.proofs.Printed.{alone-printed, contained-lines, lines_for, not-contained-lines, printed, refused-lines, short-printed}
use Rattle.report.specs.Lines.{entry_line, entry_lines, lines_from, lines_of, specimen_lines}
use Rattle.report.specs.Promise.{Prints, Writes, lent}
use Rattle.report.specs.Promise.Writes.{line, none}
use Rattle.report.specs.Text.{ascii, decimal, digits_of, input_bytes, line_of, line_text, line_words, lines_text}

-- ---- the lines of an answer, one after the other

module _ (a : Comparison) (blocks : List ℕ) where
  -- what a call of `line_text` returns is the length of the line, which the buffer then starts with
  one_written : (n : ℕ) (b : List ℕ) {r : ℕ} {b' : List ℕ} → r ≡ length (line_text (line_of a blocks n)) → b' ≡ line_text (line_of a blocks n) ++ drop r b
      → take r b' ≡ line_text (line_of a blocks n)
  one_written n b e f = rw (f, e) (take-append_seam (line_text (line_of a blocks n)) (drop (length (line_text (line_of a blocks n))) b))

  later-written : {n left : ℕ} {t : List ℕ} → Writes a blocks (suc n) left t → t ≡ lines_text (lines_from blocks (specimen_lines a) (suc n) left)
  unfolding lines_from lines_text line_of
  later-written none = refl
  later-written {n} (line b e f w) = ap₂ (λ (x y : List ℕ). x ++ y) (one_written (suc n) b e f) (later-written w)

  pub all-written : {t : List ℕ} → Writes a blocks 0 (suc (specimen_lines a)) t → t ≡ lines_text (lines_of a blocks)
  unfolding lines_of lines_text line_of
  all-written (line b e f w) = ap₂ (λ (x y : List ℕ). x ++ y) (one_written 0 b e f) (later-written w)

-- what the program writes are the lines of the comparison of the input's two parts
pub program-text : (s : List ℕ) {t : List ℕ} → Prints s t → t ≡ lines_text (printed s lent)
program-text s p = all-written p.answer p.blocks p.written ∙ ap₂ (λ (a : Comparison) (b : List ℕ). lines_text (lines_of a b)) p.answered p.shown

-- the output that it lends is as long as both together [C1], so it never prints refusal 7
pub output-room : (s : List ℕ) → length s ≤ input_bytes → length (first_part s) + length (second_part s) ≤ length lent
output-room s h =
    let both : length (first_part s) + length (second_part s) ≡ length s = sym (length-append (first_part s) (second_part s)) ∙ ap length (parts_join s) in
    omega (arith, length-replicate {A = ℕ} input_bytes 0)

-- ---- by the answer

module _ (c d out : List ℕ) where
  -- [Q3] contained
  pub contained-text : compare_named [] [] c d out ≡ Ok None → lines_text (lines_for c d out) ≡ ascii "contained\n"
  unfolding lines_text line_text line_words
  contained-text e = ap lines_text (contained-lines c d out e)

  -- [Q3] a refusal
  pub refused-text : {e : Refusal} → compare_named [] [] c d out ≡ Err e
      → lines_text (lines_for c d out) ≡ ascii "refused " ++ (decimal (number_of e.cause) ++ (ascii " input " ++ (decimal e.input ++ (ascii " place " ++ (decimal e.place ++ ascii "\n")))))
  unfolding lines_text line_text line_words
  refused-text h = ap lines_text (refused-lines c d out h) ∙ rw append-nil (simp append_assoc)

  -- [Q3] not contained, then a line for each entry of the specimen
  pub not-contained-text : {j k : ℕ} → compare_named [] [] c d out ≡ not_contained j k
      → lines_text (lines_for c d out) ≡ ascii "not contained " ++ (decimal j ++ (ascii "\n" ++ lines_text (entry_lines 1 (specimen_of standing (entries_of c) (entries_of d)))))
  unfolding lines_text line_text line_words
  not-contained-text e = ap lines_text (not-contained-lines c d out e) ∙ simp append_assoc

-- [Q3] `has` or `group` with its entry number; [Q4] `count` is one more than what is stored
module _ (n : ℕ) (e : Entry) where
  pub has-text : e.kind ≢ 7 → line_text (entry_line n e)
      ≡ ascii "has " ++ (decimal n ++ (ascii " owner " ++ (decimal e.owner ++ (ascii " property " ++ (decimal e.name ++ ascii "\n")))))
  unfolding line_text line_words entry_line
  has-text h = rw (entry_line, ne_eqb h) (simp append_assoc)

  pub group-text : e.kind ≡ 7 → line_text (entry_line n e)
      ≡ ascii "group " ++ (decimal n ++ (ascii " owner " ++ (decimal e.owner ++ (ascii " link " ++ (decimal e.name
      ++ (ascii " count " ++ (decimal (e.number + 1) ++ ascii "\n")))))))
  unfolding line_text line_words entry_line
  group-text h = rw (entry_line, eq-eqb h) (simp append_assoc)

-- ---- by the input

-- [Q5] 612 bytes, or none
pub short-text : (s out : List ℕ) → length s < 1024 → length s ≢ 512 → lines_text (printed s out) ≡ ascii "refused 1 input 1 place 0\n"
unfolding lines_text line_text line_words decimal digits_of
short-text s out h n = ap lines_text (short-printed s out h n)

-- [Q5] an accepted C alone
pub alone-text : (c out : List ℕ) {n : ℕ} → reading_of Description 1 c ≡ Ok n → lines_text (printed c out) ≡ ascii "refused 1 input 2 place 0\n"
unfolding lines_text line_text line_words decimal digits_of
alone-text c out e = ap lines_text (alone-printed c out e)
