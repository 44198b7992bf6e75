-- `below` meets its contract: what is found is the number of an entry.
use native.Mathlib.Omega.{arith}
use Rattle.narrowest.proofs.paired.PairLaws.{found-small}
use Rattle.narrowest.proofs.paired.Paired.below.Goals as goal

pub overflow_cast-result : goal.overflow_cast-result
overflow_cast-result c = omega (arith, found-small c.args.self.sides.first.form.held _ 5 _ c.below.ensures)

pub overflow_mul-result : goal.overflow_mul-result
overflow_mul-result c = omega (arith, found-small c.args.self.sides.first.form.held _ 5 _ c.below.ensures)

pub overflow_cast-result-then-second_alone : goal.overflow_cast-result-then-second_alone
overflow_cast-result-then-second_alone c = omega (arith, found-small c.args.self.sides.second.form.held _ 5 _ c.below-then-second_alone.ensures)
