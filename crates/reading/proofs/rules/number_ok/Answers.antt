-- `number_ok` meets its contract.
use native.Mathlib.Omega.{arith}
use Rattle.reading.proofs.rules.KindLaws.{number_by, product_small}
use Rattle.reading.proofs.rules.number_ok.Goals as goal

pub overflow_mul-result : goal.overflow_mul-result
overflow_mul-result c = rw c.from.ensures (omega (arith, product_small c.args.kind c.args.number c.pinned.ensures))

pub returns : goal.returns
returns c = rw c.from.ensures (number_by _ _ c.pinned.ensures)
