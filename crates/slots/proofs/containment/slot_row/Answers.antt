-- `slot_row` meets its contract: the largest tables have room for every service.
use native.Mathlib.Omega.{arith}
use Rattle.slots.proofs.FailingLaws.{accepted-few}
use Rattle.slots.proofs.containment.slot_row.Goals as goal

pub slot_row_under-requires-2 : goal.slot_row_under-requires-2
slot_row_under-requires-2 c =
    let t = c.total-n.ensures in
    (c.requires.0, c.requires.1, omega (arith, t.0, (accepted-few 2 _ t.1).1), omega arith, omega arith, omega arith, omega arith, omega arith)
