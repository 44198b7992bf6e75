-- `at_most` meets its contract.
use mathlib.Core.Path.{◌∙◌, sym}
use native.Mathlib.Omega.{arith}
use Rattle.base.proofs.Tests.{le-leb}
use Rattle.blocks.specs.Single.{items_up_to}
use Rattle.fit.proofs.totals.Totals.at_most.Goals as goal

pub returns-then-number-gt0 : goal.returns-then-number-gt0
returns-then-number-gt0 c =
    let a = c.args in
    λ es n T S. sym (le-leb {m = items_up_to es a.owner a.l.0 n} {n = a.number} (omega (arith, S a.owner a.l.0 (sym c.is_single.ensures ∙ c.if-is_single.true), c.if-number-gt0.true)))

pub returns : goal.returns
returns c = λ es n T S. rw (c.total_of.ensures es n T, c.from.ensures)
