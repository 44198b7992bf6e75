-- `least_in` meets its contract.
use native.Mathlib.Omega.{arith}
use Rattle.base.proofs.Tests.{eq-eqb, ne_eqb}
use Rattle.slots.specs.code.TablePlaces.{least_in}
use Rattle.compare.proofs.settled.Slots.least_in.Goals as goal

pub returns-then-s-eq0 : goal.returns-then-s-eq0
unfolding least_in
returns-then-s-eq0 c = (rw (eq-eqb c.if-s-eq0.true), omega arith)

pub returns : goal.returns
unfolding least_in
returns c = let e = c.low_in.ensures in (rw (ne_eqb c.if-s-eq0.false) e.0, e.1)
