use Rattle.std.proofs.Common.{arith}
use Rattle.runs.proofs.AlongChains.{read}
use Rattle.runs.proofs.walks.GatherLaws.{gather-ends, gather-goes, gather_none, gather-starts}
use Rattle.runs.proofs.walks.gather.Goals as goal

pub returns-then-order-from : goal.returns-then-order-from
returns-then-order-from c =
    let a = c.args in
    gather_none a.table.now a.last.now a.before.now a.run a.low a.order.now c.chain_start-first.ensures.is (omega arith)

pub loop-s-init : goal.loop-s-init
loop-s-init c =
    let a = c.args in
    rw c.into_iter-s-iterator.ensures.into_iter_gives
    (gather-starts a.table.now a.last.now a.before.now a.run a.low a.order.now c.chain_start-first.ensures (omega arith))

pub loop-s-preserved : goal.loop-s-preserved
loop-s-preserved c =
    gather-goes c.loop-s.invariant c.in-Some.ensures.steps (read c.args.table.now c.from-in-loop-s.ensures) c.push_tag-n.ensures

pub returns : goal.returns
returns c = gather-ends c.loop-s.invariant c.in-None.ensures.steps.0
