-- What the promises of the comparison speak of: inputs that are compared, containment in every finite record that
-- keeps a background, what 'not contained' says of the output, an answer for all inputs as one statement, and what
-- each line of the cases says.
-- Assumes nothing.
use Rattle.std.specs.Prelude.{◌*◌, ◌+◌, ◌<◌, ◌≤◌, ℕ, drop, length, false, true, List, ◌++◌, ◌⊎◌, ◌↔◌, ◌≡◌, Ok, None}
use Rattle.base.specs.Ascending.{Sorted}
use Rattle.blocks.specs.Encoding.{blocks_for, encode, first_blocks}
use Rattle.blocks.specs.Entries.{entries_of}
use Rattle.blocks.specs.Faults.{faults}
use Rattle.blocks.specs.Frame.{plain}
use Rattle.blocks.specs.Promise.{NoneApplies}
use Rattle.blocks.specs.Reading.{reading_of}
use Rattle.blocks.specs.declared.Schema.TheVariants.{Description}
use Rattle.clashes.specs.Clash.{specimen_reading}
use Rattle.compare.specs.Answer.{compare_of, output_of, Comparison, not_contained}
use Rattle.fit.specs.Answer.{fit_of}
use Rattle.logic.specs.Background.{Background, Keeps}
use Rattle.logic.specs.Record.{Record, fits}
use Rattle.meaning.specs.Description.{place_of}
use Rattle.meaning.specs.Failing.{specimen_of}
use Rattle.meaning.specs.Promise.{FirstNotEntailed, Subsumed}
use Rattle.meaning.specs.RowEntries.{entry_before}
use Rattle.meaning.specs.Specimen.{record_of}
use Rattle.normal.specs.Promise.{NormalisedAs}
use Rattle.meaning.specs.StarredCases.{Line, Outcome, compares, impossible, inside, normalises, outside}
use Rattle.pairs.specs.Pairs.{pair_faults, under}

-- both inputs are accepted, and the output is at least as long as both
pub record Comparable (c d out : List ℕ) : Type 0 where
  pub first : ℕ
  pub second : ℕ
  pub first_read : reading_of Description 1 c ≡ Ok first
  pub second-read : reading_of Description 2 d ≡ Ok second
  pub room : length c + length d ≤ length out

-- the list and both inputs are accepted, and the output is shorter than both together
abbrev pub TooShort : List ℕ → List ℕ → List ℕ → List ℕ → Type 0
TooShort P c d out = NoneApplies (pair_faults P) × NoneApplies (faults Description c) × NoneApplies (faults Description d) × (length out < length c + length d)

-- [C7] every item that fits C fits D, in every finite record that keeps the background; so in that of a specimen
-- [C15]
abbrev pub ContainedInAll : Background → List ℕ → List ℕ → Type 0
ContainedInAll b c d = Subsumed b (place_of (entries_of c) 0) (place_of (entries_of d) 0)

-- an item of a finite record that keeps the background, which fits C and misses D: in the field's terms, a countermodel of the subsumption
pub record Countermodel (b : Background) (c d : List ℕ) : Type 0 where
  pub shown : Record
  pub keeps : Keeps b shown
  pub item : ℕ
  pub inside : item < shown.size
  pub fitting : fits shown (place_of (entries_of c) 0) item ≡ true
  pub missing : fits shown (place_of (entries_of d) 0) item ≡ false

-- the answer is 'not contained', with an entry's number and the specimen's number of entries
pub record AnswersNot (P c d out : List ℕ) : Type 0 where
  pub entry : ℕ
  pub entries : ℕ
  pub answer : compare_of P c d out ≡ not_contained entry entries

-- What the answer 'not contained', with the numbers j and k, says of the output.
pub record Refuted (P c d out : List ℕ) (j k : ℕ) : Type 0 where
  -- j is the number of the first entry of D, apart from 'every' entries, that C does not say
  pub number : FirstNotEntailed (under P) (place_of (entries_of c) 0) (entries_of d) j
  -- the blocks fit the output, and later bytes are unchanged
  pub room : 512 * blocks_for plain k ≤ length out
  pub later : drop (512 * blocks_for plain k) (output_of P c d out) ≡ drop (512 * blocks_for plain k) out
  -- they are a specimen of k entries, no more than C and D have together, whose record keeps the list and the rule on single links; so it
  -- is accepted under the list
  pub blocks : first_blocks k (output_of P c d out) ≡ encode (specimen_of (under P) (entries_of c) (entries_of d))
  pub accepted : specimen_reading P (first_blocks k (output_of P c d out)) ≡ Ok k
  pub few : k ≤ length (entries_of c) + length (entries_of d)
  pub keeps : Keeps (under P) (record_of (entries_of (first_blocks k (output_of P c d out))))
  -- [C12] the specimen ascends: so each property of a place, and each group of a place and link, stands once
  pub ascending : Sorted entry_before (entries_of (first_blocks k (output_of P c d out)))
  -- [C14] whose top item fits C and does not fit D, by the fit call under the same list
  pub yes : fit_of P (first_blocks k (output_of P c d out)) c ≡ Ok true
  pub no : fit_of P (first_blocks k (output_of P c d out)) d ≡ Ok false

-- [C7] contained exactly where no record has an item that fits C and not D, not contained exactly where one has, and
-- shows it. So no program that answers one of the two to all, or shows nothing, passes for this one [K7].
pub record Decided (P c d out : List ℕ) : Type 0 where
  pub answers : (compare_of P c d out ≡ Ok None) ⊎ AnswersNot P c d out
  pub contained : (compare_of P c d out ≡ Ok None) ↔ ContainedInAll (under P) c d
  pub not-contained : AnswersNot P c d out ↔ Countermodel (under P) c d
  pub refuted : {j k : ℕ} → compare_of P c d out ≡ not_contained j k → Refuted P c d out j k

-- the answer, and the output after it
abbrev pub answer_of : Outcome → Comparison
answer_of inside = Ok None
answer_of (outside n sp) = not_contained n (length sp)

abbrev pub output_for : Outcome → List ℕ → List ℕ
output_for inside out = out
output_for (outside n sp) out = encode sp ++ drop (512 * blocks_for plain (length sp)) out

-- the entries as blocks give the answer and the output, for each output that is long enough; the normal form is written as the entries given;
-- every accepted description contains what nothing fits
abbrev pub Right : List ℕ → Line → Type 0
Right P (compares c d o) =
    (out : List ℕ) → length (encode c) + length (encode d) ≤ length out
    → (compare_of P (encode c) (encode d) out ≡ answer_of o) × (output_of P (encode c) (encode d) out ≡ output_for o out)
Right P (normalises c n) = NormalisedAs P c n
Right P (impossible c) = (d out : List ℕ) → Comparable (encode c) d out → compare_of P (encode c) d out ≡ Ok None
