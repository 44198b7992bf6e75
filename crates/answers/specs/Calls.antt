-- What the contracts of the exported calls say beside their equations: by which row each refuses, that a refusal writes nothing, and, for the
-- calls that have no list of pairs and no dictionary, what is promised in plain words.
-- Assumes nothing.
use Rattle.std.specs.Prelude.{◌*◌, ◌≤◌, ℕ, drop, length, List, [], Result, Ok, ◌↔◌, ◌≡◌}
use Rattle.answers.specs.Promise.{fits_in}
use Rattle.blocks.specs.Encoding.{blocks_for, first_blocks}
use Rattle.blocks.specs.Entries.{entries_of}
use Rattle.blocks.specs.Faults.{Fault, faults}
use Rattle.blocks.specs.Frame.{plain}
use Rattle.blocks.specs.Promise.{FirstOf, NoneApplies}
use Rattle.blocks.specs.Reading.{reading_of}
use Rattle.blocks.specs.Refusals.{refused}
use Rattle.blocks.specs.declared.Cause.{Cause}
use Rattle.blocks.specs.declared.Refusal.{Refusal}
use Rattle.blocks.specs.declared.Schema.TheVariants.{Description}
use Rattle.blocks.specs.declared.Schema.{Schema}
use Rattle.compare.specs.Answer.{compare_of, output_of}
use Rattle.compare.specs.Promise.{Decided}
use Rattle.fit.specs.Answer.{fit_of}
use Rattle.fit.specs.Counted.{groups_in, with_table}
use Rattle.fit.specs.Promise.{FitsExactly}
use Rattle.logic.specs.Record.{Record, fits}
use Rattle.meaning.specs.Description.{place_of}
use Rattle.named.specs.Answer.{compare_named, counted_named, fit_named, normalised_named, output_named}
use Rattle.names.specs.NamedReading.{plain_of}
use Rattle.names.specs.Promise.{Plain}
use Rattle.normal.specs.Answer.{normalise_of, normalised_of}
use Rattle.normal.specs.Promise.{Normalises}
use Rattle.unfolding.specs.Answer.{unfolded_at}

-- ---- refusals

-- [R25] an answer is a refusal exactly where a row of a table applies, with that row's cause, input and place
abbrev pub RefusedExactly : {A : Type 0} → Result A Refusal → (Cause → ℕ → ℕ → Type 0) → Type 0
RefusedExactly answer Row = (k : Cause) (i p : ℕ) → (answer ≡ refused k i p) ↔ Row k i p

-- [R21] and a refusal writes nothing: the output after it is the output before it
abbrev pub NothingWritten : {A : Type 0} → Result A Refusal → List ℕ → List ℕ → Type 0
NothingWritten answer after before = (k : Cause) (i p : ℕ) → answer ≡ refused k i p → after ≡ before

-- ---- reading

-- the first line of input 1 that applies
abbrev pub FirstLine : List Fault → Cause → ℕ → ℕ → Type 0
FirstLine lines k i p = (i ≡ 1) × FirstOf lines k p

-- [R24] [R26] input 1 is refused exactly by the first line that applies, and accepted exactly where none does, with
-- its number of entries
pub record ReadExactly (σ : Schema) (s : List ℕ) : Type 0 where
  pub refuses : RefusedExactly (reading_of σ 1 s) (FirstLine (faults σ s))
  pub accepts : (n : ℕ) → (reading_of σ 1 s ≡ Ok n) ↔ (NoneApplies (faults σ s) × (n ≡ length (entries_of s)))

-- ---- unfolding

-- [D12] What the answer that n entries are written says of the output.
pub record Unfolds (D s out : List ℕ) (n : ℕ) : Type 0 where
  -- the blocks fit the output, and later bytes are unchanged
  pub room : 512 * blocks_for plain n ≤ length out
  pub later : drop (512 * blocks_for plain n) (unfolded_at D 1 s out) ≡ drop (512 * blocks_for plain n) out
  -- [D7] they are the plain description: n entries, at most 1,008, accepted as any input, and none is a name
  pub blocks : first_blocks n (unfolded_at D 1 s out) ≡ plain_of D s
  pub few : n ≤ 1008
  pub accepted : (i : ℕ) → reading_of Description i (first_blocks n (unfolded_at D 1 s out)) ≡ Ok n
  pub nameless : Plain (entries_of (first_blocks n (unfolded_at D 1 s out)))
  -- the same items fit it as the description with names, in every record
  pub same : (R : Record) (x : ℕ) → fits R (place_of (entries_of (first_blocks n (unfolded_at D 1 s out))) 0) x ≡ fits_in R D s x

-- ---- with no pairs and no dictionary

-- the answer is that of the plain call, yes exactly when the specimen's top item fits the description, and no otherwise
pub record FitsPlainly (s d : List ℕ) : Type 0 where
  pub answer : fit_named [] [] s d ≡ fit_of [] s d
  pub exactly : FitsExactly [] s d

-- [F13] counted too: each group is added once in making the table, and none in the walk
pub record CountsPlainly (s d : List ℕ) : Type 0 where
  pub counted : counted_named s d ≡ with_table (fit_of [] s d) (groups_in s)
  pub exactly : FitsExactly [] s d

-- the answer and the output are those of the plain call, and what is promised of them holds
pub record NormalisesPlainly (d out : List ℕ) (k : ℕ) : Type 0 where
  pub answer : normalise_of [] d out ≡ Ok k
  pub output : normalised_named [] [] d out ≡ normalised_of [] d out
  pub normalises : Normalises [] d out k

pub record DecidedPlainly (c d out : List ℕ) : Type 0 where
  pub answer : compare_named [] [] c d out ≡ compare_of [] c d out
  pub output : output_named [] [] c d out ≡ output_of [] c d out
  pub decided : Decided [] c d out
