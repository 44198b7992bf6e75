-- `blocks_for` meets its contract.
use Rattle.blocks.specs.Frame.{framed}
use Rattle.writing.proofs.WritingLaws.{blocks-ceil}
use Rattle.writing.proofs.writer.blocks_for.Goals as goal

pub returns : goal.returns
returns g c = blocks-ceil (framed g.row.WIDTH g.row.ROOM) c.args.count c.requires (rw c.div_ceil.ensures at c.max.ensures)
