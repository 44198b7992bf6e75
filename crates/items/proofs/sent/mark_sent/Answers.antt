-- `mark_sent` meets its contract: the tables of each size have room.
use Rattle.std.proofs.Common.{arith}
use Rattle.places.proofs.ReadLaws.{room-all, room-blocks}
use Rattle.items.proofs.sent.mark_sent.Goals as goal

pub mark_sent_in-requires : goal.mark_sent_in-requires
mark_sent_in-requires c = (omega arith, room-blocks 64 c.args.description.now 2 (omega (arith, c.if-description-le-BLOCK.true)))

pub mark_sent_in-requires-2 : goal.mark_sent_in-requires-2
mark_sent_in-requires-2 c = (omega arith, room-all c.args.description.now 2)
