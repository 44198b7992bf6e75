use Rattle.std.proofs.Common.{arith}
use Rattle.hierarchy.proofs.WordLaws.{rows-more, told-without}
use Rattle.hierarchy.proofs.superiors.direct_rows.Goals as goal

pub loop-i-preserved : goal.loop-i-preserved
loop-i-preserved c = λ s R.
    let row = R.row c.loop-i.i c.loop-i-test.true in
    rows-more (c.loop-i.invariant s R) (omega arith) (told-without row c.requires (omega arith) (c.covered_by.ensures s (s c.loop-i.i) R row))
