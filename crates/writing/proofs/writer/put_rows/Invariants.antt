-- `put_rows` meets its contract: after j turns the first j rows are stored.
use lib.ListN.{take}
use mathlib.Core.List.{map}
use mathlib.Core.Path.{◌≡◌}
use Rattle.base.specs.Stores.{stored}
use Rattle.blocks.specs.Encoding.{joined, row_bytes_of}
use Rattle.writing.proofs.writer.put_rows.Given as goal

abbrev pub invariant-loop-j : goal.invariant-loop-j
invariant-loop-j g l = l.out ≡ stored l.initial.out l.at (joined (map (row_bytes_of g.row.WIDTH) (take l.j l.rows)))
