-- `rows_sized` meets its contract: its tables are cleared and have room.
use Rattle.normal.proofs.RoomLaws.{entries-few, roomy-lent, roomy-zeros}
use lib.ListN.{length-replicate}
use mathlib.Core.Path.{◌∙◌, sym}
use Rattle.normal.proofs.output.rows_sized.Goals as goal

pub rows_in-requires : goal.rows_in-requires
rows_in-requires g c =
    roomy-lent
    (roomy-zeros _ g.row.ROWS g.row.SLOTS g.row.RUNS c.requires.3 c.requires.4 c.requires.1 c.requires.2 (entries-few _ c.requires.0))
    (c.requires.5 ∙ sym (length-replicate g.row.ROWS 0))
