-- `each_read` meets its contract: the largest tables have room for every description.
use native.Mathlib.Omega.{arith}
use Rattle.slots.proofs.FailingLaws.{accepted-few}
use Rattle.slots.proofs.each.each_read.Goals as goal

pub each_under-requires-2 : goal.each_under-requires-2
each_under-requires-2 c =
    let n = (accepted-few 1 _ c.args.c.read).1 in
    let m = (accepted-few 1 _ c.args.d.read).1 in
    (c.requires, omega (arith, n), omega (arith, m), omega arith, omega arith, omega arith, omega arith, omega arith)
