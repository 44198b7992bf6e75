use native.Mathlib.Omega.{arith}
use Rattle.earning.proofs.MarkTables.{put-more, put-start, put-whole}
use Rattle.narrow.specs.Earned.{sayers}
use Rattle.earning.proofs.tried.Tried.put_back.Goals as goal

pub loop-k-init : goal.loop-k-init
loop-k-init c = (omega arith, λ pre es L. put-start (sayers es) c.args.kept.now c.args.from)

pub loop-k-preserved : goal.loop-k-preserved
loop-k-preserved c =
    let l = c.loop-k in
    (omega (arith, l.invariant.0), λ pre es L. put-more (sayers es) c.args.kept.now l.kept c.args.from l.k l.invariant.0 (l.invariant.1 pre es L) (omega (arith, c.loop-k-test.true, c.requires, c.args.self.few, l.auto)) (c.says.ensures pre es L))

pub returns : goal.returns
returns c =
    let l = c.loop-k in
    λ pre es L. put-whole (sayers es) c.args.kept.now l.kept c.args.from c.args.to l.k (omega (arith, l.invariant.0, c.loop-k-test.false, c.requires)) (l.invariant.1 pre es L)
