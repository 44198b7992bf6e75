-- `check_entries` meets its contract: either table has room.
use Rattle.std.proofs.Common.{arith}
use Rattle.firsts.proofs.RoomLaws.{room-enough}
use Rattle.delivered.proofs.reader.check_entries.Goals as goal

pub check_in_tables-requires : goal.check_in_tables-requires
check_in_tables-requires c =
    let b = c.args.blocks in
    (room-enough 64 194 64 (omega arith) (omega arith) (omega arith) (omega (arith, c.total.ensures, b.counted, c.if-total-lt64.true)), omega (arith, c.total.ensures, b.counted, c.if-total-lt64.true), omega arith, omega arith)

pub check_in_tables-requires-2 : goal.check_in_tables-requires-2
check_in_tables-requires-2 c =
    let b = c.args.blocks in
    (room-enough 4096 8130 2016 (omega arith) (omega arith) (omega arith) b.few, b.few, omega arith, omega arith)
