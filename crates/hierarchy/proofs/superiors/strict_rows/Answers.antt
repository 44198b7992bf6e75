use Rattle.std.proofs.Common.{arith}
use Rattle.hierarchy.proofs.WordLaws.{rows-more, told-without}
use Rattle.hierarchy.proofs.superiors.strict_rows.Goals as goal

pub loop-i-preserved : goal.loop-i-preserved
loop-i-preserved c = λ t U D.
    let h = c.loop-i-test.true in
    rows-more (c.loop-i.invariant t U D) (omega arith) (told-without (U.row c.loop-i.i h) c.requires (omega arith) (D.row c.loop-i.i h))
