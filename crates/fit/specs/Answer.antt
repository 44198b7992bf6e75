-- The fit answer.
-- Assumes nothing.
use Rattle.std.specs.Prelude.{Bool, List, ℕ, Result, Ok, Err}
use Rattle.std.proofs.Math.Option.{Option, none, some}
use Rattle.blocks.specs.Entries.{entries_of}
use Rattle.blocks.specs.Reading.{reading_of, Reading}
use Rattle.blocks.specs.Refusals.{number_of, unless_refused}
use Rattle.blocks.specs.declared.Refusal.{Refusal}
use Rattle.blocks.specs.declared.Schema.TheVariants.{Description, Specimen}
use Rattle.clashes.specs.Clash.{specimen_reading}
use Rattle.logic.specs.Record.{fits}
use Rattle.meaning.specs.Description.{place_of}
use Rattle.meaning.specs.Specimen.{record_of}

-- [F10] yes or no for the top item: the top item of the specimen's record fits the description
unfoldable pub top_fits : List ℕ → List ℕ → Bool
top_fits s d = fits (record_of (entries_of s)) (place_of (entries_of d) 0) 0

-- yes or no, or a refusal
abbrev pub FitAnswer : Type 0
FitAnswer = Result Bool Refusal

-- the answer where the specimen is accepted, by what reading the description answers
abbrev pub second_of : List ℕ → List ℕ → Reading → FitAnswer
second_of s d r = unless_refused Err r (Ok (top_fits s d))

-- [F10] a specimen as input 1, a description as input 2; [R25] input 1, then input 2: without pairs
unfoldable pub plain_fit : List ℕ → List ℕ → FitAnswer
plain_fit s d = unless_refused Err (reading_of Specimen 1 s) (second_of s d (reading_of Description 2 d))

-- The same under a list of pairs: the specimen's record must keep it, or 12 [S13]; what fits stays.
unfoldable pub fit_of : List ℕ → List ℕ → List ℕ → FitAnswer
fit_of P s d = unless_refused Err (specimen_reading P s) (second_of s d (reading_of Description 2 d))

-- [K6] The numbers of each case: yes or no, and neither where an input is refused; the number returned, the input and
-- the place, 0 where nothing is refused.
pub record Returned : Type 0 where
  pub fits : Option Bool
  pub number : ℕ
  pub input : ℕ
  pub place : ℕ

abbrev pub returned : FitAnswer → Returned
returned (Ok b) = record { fits = some b; number = 0; input = 0; place = 0 }
returned (Err e) = record { fits = none; number = number_of e.cause; input = e.input; place = e.place }
