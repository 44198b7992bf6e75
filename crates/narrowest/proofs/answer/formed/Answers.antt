-- `formed` meets its contract: the rows are those of a normal form.
use native.Mathlib.Omega.{arith}
use Rattle.narrowest.proofs.answer.FormedLaws.{formed_of}
use Rattle.narrowest.proofs.answer.formed.Goals as goal

pub invariant_of-result : goal.invariant_of-result
invariant_of-result c = record { held = rw c.from.ensures (formed_of c.requires (omega (arith, c.told-table))).held }
