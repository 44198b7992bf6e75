-- The entries of a description's normal form.
-- Assumes nothing.
use Rattle.std.specs.Prelude.{List, map}
use Rattle.blocks.specs.declared.Entry.{Entry}
use Rattle.logic.specs.Background.{Background}
use Rattle.logic.specs.Layout.{write}
use Rattle.logic.specs.Normal.{nf}
use Rattle.meaning.specs.Description.{place_of}
use Rattle.meaning.specs.RowEntries.{row_entry}

-- the normal form's entries, for the records that keep a background: [E11] entries ascend by owner, then kind, then
-- name
unfoldable pub normal_entries : Background → List Entry → List Entry
normal_entries b es = map row_entry (write (nf b (place_of es 0)))
