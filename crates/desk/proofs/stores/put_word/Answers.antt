-- `put_word` meets its contract.
use Rattle.std.proofs.Common.{ap, ◌∙◌}
use Rattle.base.specs.Stores.{stored}
use Rattle.writing.proofs.WritingLaws.{word-le}
use Rattle.desk.proofs.stores.put_word.Goals as goal

pub returns : goal.returns
returns c = c.put.ensures ∙ ap (stored c.args.memory.now c.args.at) (word-le c.ranges.x.fits c.to_le_bytes.ensures)
