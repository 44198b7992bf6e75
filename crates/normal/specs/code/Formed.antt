-- The rows of a normal form in a table that is lent: what is answered, and what stands there. No public promise names these.
-- Assumes nothing.
use Rattle.std.specs.Prelude.{◌≤◌, ℕ, length, take, List, map, ◌≡◌, Ok, Err}
use Rattle.blocks.specs.Entries.{Bounded, entries_of, nth, packed}
use Rattle.blocks.specs.Reading.{reading_of, Reading}
use Rattle.blocks.specs.Refusals.{unless_refused}
use Rattle.blocks.specs.declared.Schema.TheVariants.{Description}
use Rattle.logic.specs.Background.{Background}
use Rattle.meaning.specs.NormalEntries.{normal_entries}
use Rattle.pairs.specs.Pairs.{pairs_reading, under}
use Rattle.pairs.specs.Promise.{ListRead}

-- [R25] the list first, then the input; else the number of entries of its normal form
unfoldable pub form_under : Background → List ℕ → Reading
form_under b d = unless_refused Err (reading_of Description 1 d) (Ok (length (normal_entries b (entries_of d))))

unfoldable pub form_reading : List ℕ → List ℕ → Reading
form_reading P d = unless_refused Err (pairs_reading P) (form_under (under P) d)

-- the list and the input are accepted, and the first k numbers are the packed entries of the normal form
pub record FormRows (P d : List ℕ) (k : ℕ) (rows : List ℕ) : Type 0 where
  pub list : ListRead P
  pub total : ℕ
  pub read : reading_of Description 1 d ≡ Ok total
  pub bounded : (n : ℕ) → 1 ≤ n → n ≤ length (entries_of d) → Bounded (nth (entries_of d) n)
  pub room : k ≤ length rows
  pub held : take k rows ≡ map packed (normal_entries (under P) (entries_of d))

-- by the answer: they stand there, or nothing is said
abbrev pub FormHeld : List ℕ → List ℕ → Reading → List ℕ → Type 0
FormHeld P d (Ok k) rows = FormRows P d k rows
FormHeld P d (Err e) rows = Unit {0}
