-- A normal form in a table, and the result's entries by two of them.
-- Assumes nothing.
use Rattle.std.specs.Prelude.{length, cond, List, ℕ, map, ◌≡◌, Ok}
use Rattle.blocks.specs.Reading.{Reading}
use Rattle.blocks.specs.Refusals.{refused}
use Rattle.blocks.specs.declared.Cause.TheVariants.{Room}
use Rattle.blocks.specs.declared.Entry.{Entry}
use Rattle.logic.specs.Canonical.{Normal}
use Rattle.logic.specs.Layout.{write}
use Rattle.logic.specs.Place.{Place}
use Rattle.meaning.specs.Description.{place_of}
use Rattle.meaning.specs.RowEntries.{row_entry}
use Rattle.narrow.specs.Join.{narrowest}
use Rattle.narrow_listed.specs.Listed.{names_in}
use Rattle.narrowest.specs.Answer.{too_many}
use Rattle.narrowest.specs.code.Forms.{Held, entries_in}
use Rattle.narrowest.specs.code.Pushes.{row_number}
use Rattle.pairs.specs.Pairs.{under}

-- the place at the top
abbrev pub top_of : List ℕ → Place
top_of rows = place_of (entries_in rows) 0

-- the table holds the rows of a normal place
pub record Formed (P rows : List ℕ) : Type 0 where
  pub held : Held rows
  pub normal : Normal (under P) (top_of rows)
  pub laid : rows ≡ map row_number (write (top_of rows))

-- the place of the result, and its entries
unfoldable pub result_place : List ℕ → List ℕ → List ℕ → Place
result_place P a b = narrowest (under P) (names_in P) (top_of a) (top_of b)

unfoldable pub result_entries : List ℕ → List ℕ → List ℕ → List Entry
result_entries P a b = map row_entry (write (result_place P a b))

-- 7, or so many entries
unfoldable pub room_for : List ℕ → List Entry → Reading
room_for out es = cond (too_many out (length es)) (refused Room 0 0) (Ok (length es))
