use mathlib.Core.Path.{◌∙◌, ap}
use native.Mathlib.Omega.{arith}
use Rattle.base.proofs.StoresLaws.{stored-none}
use Rattle.pairs.specs.Pairs.{under}
use Rattle.slots.proofs.FailingLaws.{accepted-few}
use Rattle.slots.proofs.ContainmentLaws.{bit-judged, row-more, row-whole}
use Rattle.slots.specs.Holding.{failing_in}
use Rattle.slots.proofs.containment.judge_row.Goals as goal

pub loop-j-init : goal.loop-j-init
loop-j-init g c = λ s H. stored-none c.args.table.now c.args.at

pub judge-failing-requires : goal.judge-failing-requires
judge-failing-requires g c = (omega arith, omega (arith, (accepted-few 1 _ c.get.result.read).1))

pub loop-j-preserved : goal.loop-j-preserved
loop-j-preserved g c =
    let b = under c.args.supplier.marked.exclusions.pairs.now in
    let R = c.args.services.read in
    λ s H.
    row-more b _ s c.args.table.now c.args.at c.loop-j.j (omega (arith, c.loop-j-test.true, R.all)) (c.loop-j.invariant s H)
    (c.from.ensures ∙ bit-judged b s _ _ _ c.judge-failing.ensures.1 (c.judge-failing.ensures.2 s H ∙ ap (failing_in b s) c.get.ensures.0) c.is_none.ensures)

pub returns : goal.returns
returns g c = λ s H. row-whole _ _ s c.args.table.now c.args.at c.loop-j.j (omega (arith, c.loop-j-test.false, c.args.services.read.all)) (c.loop-j.invariant s H)
