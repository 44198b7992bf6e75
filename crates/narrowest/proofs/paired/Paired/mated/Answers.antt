-- `mated` meets its contract: an 'every' and its mate are numbers of entries.
use native.Mathlib.Omega.{arith}
use Rattle.narrowest.proofs.paired.PairLaws.{found-small, found-within}
use Rattle.narrowest.proofs.paired.Paired.mated.Goals as goal

pub offset_bounds-self-m : goal.offset_bounds-self-m
offset_bounds-self-m c = omega (arith, found-small c.args.self.sides.first.form.held _ 5 _ c.below-m.ensures)

pub bounds-self-m : goal.bounds-self-m
bounds-self-m c = omega (arith, found-within c.args.self.sides.first.form.rows.now _ 5 _ c.below-m.ensures, c.args.self.covered)

pub overflow_cast-result : goal.overflow_cast-result
overflow_cast-result c = omega (arith, found-small c.args.self.sides.first.form.held _ 5 _ c.below-m.ensures)

pub overflow_mul-result : goal.overflow_mul-result
overflow_mul-result c = omega (arith, found-small c.args.self.sides.first.form.held _ 5 _ c.below-m.ensures)

pub overflow_add-result : goal.overflow_add-result
overflow_add-result c = omega (arith, found-small c.args.self.sides.first.form.held _ 5 _ c.below-m.ensures, c.from.ensures)
