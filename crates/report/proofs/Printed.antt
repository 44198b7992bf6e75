-- The lines to print, by the answer and by the input. What the program writes are the bytes of these lines: see PrintedText.
-- Assumes nothing.
use Prim.Native.Nat.{◌%◌, ◌<◌, ℕ}
use lib.ListN.{length}
use mathlib.Core.Bool.{true}
use mathlib.Core.List.{List, [], ◌++◌, ◌∷◌}
use mathlib.Core.Logic.{◌≢◌}
use mathlib.Core.Path.{◌∙◌, ◌≡◌, ap, sym}
use native.Mathlib.Omega.{arith}
use Rattle.std.specs.Prelude.{None, Ok, Err}
use Rattle.base.proofs.Tests.{eq-cases, eq-eqb, ne_eqb}
use Rattle.blocks.specs.Entries.{entries_of}
use Rattle.blocks.specs.Faults.{faults, first, length_wrong}
use Rattle.blocks.specs.Reading.{reading_of}
use Rattle.blocks.specs.Refusals.{refusal, refused}
use Rattle.blocks.specs.declared.Cause.TheVariants.{Length}
use Rattle.blocks.specs.declared.Refusal.{Refusal}
use Rattle.blocks.specs.declared.Schema.TheVariants.{Description}
use Rattle.compare.proofs.AnswerLaws.{compared, first-refused, not-contained-ready, not-verdict, second-refused}
use Rattle.compare.specs.Answer.{not_contained, output_under}
use Rattle.lists.proofs.FirstPart.{no_second}
use Rattle.lists.specs.Parts.{first_part, second_part}
use Rattle.logic.specs.Background.{standing}
use Rattle.meaning.specs.Failing.{specimen_of}
use Rattle.named.proofs.SentLaws.{plain-refused, plain-verdict}
use Rattle.named.specs.Answer.{compare_named, output_named}
use Rattle.report.proofs.Joined.{alone-parts, joined-parts}
use Rattle.report.proofs.WrittenLines.{lines-written}
use Rattle.report.specs.Lines.{entry_lines, lines_from, lines_of}
use Rattle.report.specs.declared.Line.{Line}
use Rattle.report.specs.declared.Line.TheVariants.{Contained, NotContained, Refused}

-- the lines for two descriptions, and for an input, with a given output to write the specimen to
abbrev pub lines_for : List ℕ → List ℕ → List ℕ → List Line
lines_for c d out = lines_of (compare_named [] [] c d out) (output_named [] [] c d out)

abbrev pub printed : List ℕ → List ℕ → List Line
printed s out = lines_for (first_part s) (second_part s) out

-- ---- by the answer

module _ (c d out : List ℕ) where
  -- [Q3] contained
  pub contained-lines : compare_named [] [] c d out ≡ Ok None → lines_for c d out ≡ Contained ∷ []
  unfolding lines_of lines_from
  contained-lines e = rw (lines_of, e)

  -- [Q3] a refusal
  pub refused-lines : {e : Refusal} → compare_named [] [] c d out ≡ Err e → lines_for c d out ≡ Refused e ∷ []
  unfolding lines_of lines_from
  refused-lines h = rw (lines_of, h)

  -- [Q3] not contained, then a line for each entry of the specimen: of the specimen that the comparison's theorems
  -- speak of
  pub not-contained-lines : {j k : ℕ} → compare_named [] [] c d out ≡ not_contained j k
      → lines_for c d out ≡ NotContained j ∷ entry_lines 1 (specimen_of standing (entries_of c) (entries_of d))
  unfolding lines_of output_under
  not-contained-lines {j} {k} e =
      let shown = specimen_of standing (entries_of c) (entries_of d) in
      let plain = plain-verdict c d out e in
      let v = sym (compared standing c d out (not-contained-ready standing c d out plain.0)) ∙ plain.0 in
      let l : length shown ≡ k = (not-verdict standing (entries_of c) (entries_of d) v).2 in
      let o : output_named [] [] c d out ≡ output_under standing c d out = plain.1 in
      let w = plain.0 in
      rw (lines_of, e, o, output_under, w, ← l, lines-written shown)

-- ---- by the input

-- two accepted descriptions, joined, are compared with each other
pub joined-printed : (c d out : List ℕ) {n m : ℕ} → reading_of Description 1 c ≡ Ok n → reading_of Description 2 d ≡ Ok m
    → printed (c ++ d) out ≡ lines_for c d out
joined-printed c d out p q = let parts = joined-parts 1 2 c d p q in rw (parts.0, parts.1)

length-refused : (i : ℕ) (s : List ℕ) → length_wrong Description s ≡ true → reading_of Description i s ≡ refused Length i 0
unfolding reading_of faults first
length-refused i s e = simp (reading_of, faults, e)

length-wrong : (s : List ℕ) → length s < 1024 → length s ≢ 512 → length_wrong Description s ≡ true
unfolding length_wrong
length-wrong s h n =
    eq-cases (length s) 0 (λ q. rw (length_wrong, eq-eqb q))
    (λ q. let r : length s % 512 ≢ 0 = λ z. omega arith in rw (length_wrong, ne_eqb q, ne_eqb r))

-- [Q5] 612 bytes, or none: so for every input that is shorter than two blocks and is not one block
pub short-printed : (s out : List ℕ) → length s < 1024 → length s ≢ 512 → printed s out ≡ Refused (refusal Length 1 0) ∷ []
short-printed s out h n =
    let none = no_second s (λ k b. let w = b.whole in let l = b.later in omega arith) in
    refused-lines (first_part s) (second_part s) out
    (plain-refused (first_part s) (second_part s) out (λ z. omega arith)
    (first-refused standing (first_part s) (second_part s) out (ap (reading_of Description 1) none.0 ∙ length-refused 1 s (length-wrong s h n))))

-- [Q5] an accepted C alone
pub alone-printed : (c out : List ℕ) {n : ℕ} → reading_of Description 1 c ≡ Ok n → printed c out ≡ Refused (refusal Length 2 0) ∷ []
alone-printed c out e =
    let parts = alone-parts 1 c e in
    refused-lines (first_part c) (second_part c) out
    (plain-refused (first_part c) (second_part c) out (λ z. omega arith)
    (second-refused standing (first_part c) (second_part c) out (ap (reading_of Description 1) parts.0 ∙ e)
    (ap (reading_of Description 2) parts.1 ∙ length-refused 2 [] (length-wrong [] (omega arith) (λ z. omega arith)))))
