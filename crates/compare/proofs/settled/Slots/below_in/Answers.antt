-- `below_in` meets its contract: no slot, a slot that has at most 0, and another.
use native.Mathlib.Omega.{arith}
use mathlib.Core.Path.{◌∙◌, sym}
use Rattle.base.proofs.Tests.{eq-eqb, ne_eqb}
use Rattle.slots.specs.code.TablePlaces.{below_in}
use Rattle.compare.proofs.settled.Slots.below_in.Goals.{then-s-eq0-via-then-s-eq0, then-s-eq0-via-else-s-eq0+then-high_in-eq0}
use Rattle.compare.proofs.settled.Slots.below_in.Goals as goal

pub returns-then-s-eq0 : goal.returns-then-s-eq0
unfolding below_in
returns-then-s-eq0 c =
    elim c.then-s-eq0.branch [
      | then-s-eq0-via-then-s-eq0 w ↦ (rw (eq-eqb w.if-s-eq0.true), omega arith)
      | then-s-eq0-via-else-s-eq0+then-high_in-eq0 w ↦ (rw (ne_eqb w.if-s-eq0.false, eq-eqb (sym w.high_in.ensures.0 ∙ w.if-high_in-eq0.true)), omega arith)
    ]

pub returns : goal.returns
unfolding below_in
returns c =
    (rw (ne_eqb c.if-s-eq0.false, ne_eqb (λ z. c.if-high_in-eq0.false (c.high_in.ensures.0 ∙ z))), omega (arith, c.requires, c.args.self.now.stood.few))
