use native.Mathlib.Omega.{arith}
use Rattle.earning.proofs.MarkTables.{cleared-more, cleared-start, cleared-whole}
use Rattle.earning.proofs.fold.leave_out.Goals as goal

pub loop-k-init : goal.loop-k-init
loop-k-init c = (omega arith, cleared-start c.args.kept.now c.args.from)

pub loop-k-preserved : goal.loop-k-preserved
loop-k-preserved c =
    (omega (arith, c.loop-k.invariant.0), cleared-more c.args.kept.now c.loop-k.kept c.args.from c.loop-k.k c.loop-k.invariant.0 c.loop-k.invariant.1 (omega (arith, c.loop-k-test.true, c.requires, c.loop-k.auto)))

pub returns : goal.returns
returns c = cleared-whole c.args.kept.now c.loop-k.kept c.args.from c.args.to c.loop-k.k (omega (arith, c.loop-k.invariant.0, c.loop-k-test.false, c.requires)) c.loop-k.invariant.1
