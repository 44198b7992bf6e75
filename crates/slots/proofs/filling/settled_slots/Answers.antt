-- `settled_slots` meets its contract: there are three sizes of tables.
use native.Mathlib.Omega.{arith}
use Rattle.slots.proofs.FailingLaws.{accepted-few}
use Rattle.slots.proofs.filling.settled_slots.Goals as goal

pub settled_under-requires-2 : goal.settled_under-requires-2
settled_under-requires-2 c =
    let few = accepted-few 1 _ c.args.d.read in
    (omega (arith, few.1), omega arith, omega arith, omega arith, omega arith, omega arith, c.requires.0, c.requires.1, c.requires.2)
