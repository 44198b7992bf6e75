-- `to_stored` meets its contract: the tables of each size have room.
use Rattle.std.proofs.Common.{arith}
use Rattle.places.proofs.ReadLaws.{room-all, room-blocks}
use Rattle.stored.proofs.storing.to_stored.Goals as goal

pub store_in-requires : goal.store_in-requires
store_in-requires c = (omega arith, room-blocks 64 c.args.d.now 1 (omega (arith, c.if-d-le-BLOCK.true)))

pub store_in-requires-then-d : goal.store_in-requires-then-d
store_in-requires-then-d c = (omega arith, room-blocks 256 c.args.d.now 1 (omega (arith, c.if-d.true)))

pub store_in-requires-2 : goal.store_in-requires-2
store_in-requires-2 c = (omega arith, room-all c.args.d.now 1)
