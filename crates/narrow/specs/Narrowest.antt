-- The narrowest description that contains two (the least common subsumer of description logics), as entries.
-- Assumes nothing.
use Rattle.std.specs.Prelude.{ℕ, List, map}
use Rattle.blocks.specs.declared.Entry.{Entry}
use Rattle.logic.specs.Background.{Background}
use Rattle.logic.specs.Layout.{write}
use Rattle.logic.specs.Place.{Place}
use Rattle.meaning.specs.Failing.{normal_of}
use Rattle.meaning.specs.RowEntries.{row_entry}
use Rattle.narrow.specs.Join.{narrowest}

-- of two descriptions, from their normal forms
unfoldable pub narrowest_place : Background → List ℕ → List Entry → List Entry → Place
narrowest_place b ps c d = narrowest b ps (normal_of b c) (normal_of b d)

unfoldable pub narrowest_entries : Background → List ℕ → List Entry → List Entry → List Entry
narrowest_entries b ps c d = map row_entry (write (narrowest_place b ps c d))
