-- `joined_below` meets its contract: what is found is the number of an entry.
use native.Mathlib.Omega.{arith}
use Rattle.narrowest.proofs.paired.PairLaws.{found-small}
use Rattle.narrowest.proofs.paired.Paired.joined_below.Goals as goal

pub overflow_cast-result : goal.overflow_cast-result
overflow_cast-result c = omega (arith, found-small c.args.self.sides.first.form.held _ 5 _ c.below.ensures)

pub overflow_mul-result : goal.overflow_mul-result
overflow_mul-result c = omega (arith, found-small c.args.self.sides.first.form.held _ 5 _ c.below.ensures)

pub overflow_cast-result-then-closes-2 : goal.overflow_cast-result-then-closes-2
overflow_cast-result-then-closes-2 c = omega (arith, found-small c.args.self.sides.second.form.held _ 5 _ c.below-then-closes-2.ensures)
