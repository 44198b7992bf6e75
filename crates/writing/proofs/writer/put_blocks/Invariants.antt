-- `put_blocks` meets its contract: after i turns the first i blocks are stored.
use mathlib.Core.List.{map}
use mathlib.Core.Path.{◌≡◌}
use Rattle.base.specs.Stores.{stored}
use Rattle.blocks.specs.Encoding.{encode_from, row_bytes_of}
use Rattle.blocks.specs.Frame.{framed}
use Rattle.writing.proofs.writer.put_blocks.Given as goal

abbrev pub invariant-loop-i : goal.invariant-loop-i
invariant-loop-i g l = l.out ≡ stored l.initial.out 0 (encode_from (framed g.row.WIDTH g.row.ROOM) l.i 0 (map (row_bytes_of g.row.WIDTH) l.rows))
