-- What the promises of the fit answer speak of: inputs that are judged, the answer exactly as the record has it, and
-- a specimen that shows a difference.
-- Assumes nothing.
use Rattle.std.specs.Prelude.{ℕ, false, true, List, ◌↔◌, ◌≡◌, Ok}
use Rattle.blocks.specs.Entries.{entries_of}
use Rattle.blocks.specs.Promise.{Legal}
use Rattle.blocks.specs.Reading.{reading_of}
use Rattle.blocks.specs.declared.Schema.TheVariants.{Description, Specimen}
use Rattle.clashes.specs.Clash.{specimen_reading}
use Rattle.fit.specs.Answer.{fit_of}
use Rattle.logic.specs.Record.{fits}
use Rattle.meaning.specs.Description.{place_of}
use Rattle.meaning.specs.FitExamples.{Case}
use Rattle.meaning.specs.Specimen.{record_of}

-- the list and both inputs are accepted
pub record Judgeable (P s d : List ℕ) : Type 0 where
  pub first : ℕ
  pub second : ℕ
  pub first_read : specimen_reading P s ≡ Ok first
  pub second-read : reading_of Description 2 d ≡ Ok second

-- [F11] yes exactly where the top item fits the description in the specimen's record, and no otherwise
pub record FitsExactly (P s d : List ℕ) : Type 0 where
  pub yes : (fit_of P s d ≡ Ok true) ↔ (fits (record_of (entries_of s)) (place_of (entries_of d) 0) 0 ≡ true)
  pub no : (fit_of P s d ≡ Ok false) ↔ (fits (record_of (entries_of s)) (place_of (entries_of d) 0) 0 ≡ false)

-- the specimen and both descriptions are legal, and the top item fits the supplier's description and not the service's
pub record Shows (c : Case) : Type 0 where
  pub legal-specimen : Legal Specimen c.specimen
  pub legal-supplier : Legal Description c.supplier
  pub legal-service : Legal Description c.service
  pub fits-supplier : fits (record_of c.specimen) (place_of c.supplier 0) 0 ≡ true
  pub not-service : fits (record_of c.specimen) (place_of c.service 0) 0 ≡ false
