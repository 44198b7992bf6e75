use Rattle.std.proofs.Common.{◌≡◌, ◌∙◌, sym, arith}
use Rattle.hierarchy.proofs.WordLaws.{covered-none, covered-past, covered-through, told-test}
use Rattle.hierarchy.proofs.superiors.covered_by.Goals as goal
use Rattle.hierarchy.proofs.superiors.covered_by.Goals.{then-has, else-has}

pub loop-k-init : goal.loop-k-init
loop-k-init c = λ s f R T. covered-none s f c.args.n

pub loop-k-preserved : goal.loop-k-preserved
loop-k-preserved c = λ s f R T.
    let k = c.loop-k.k in
    let h = c.loop-k-test.true in
    let C = c.loop-k.invariant s f R T in
    let test = sym (told-test T k h) ∙ sym c.has.ensures in
    elim c.if-has.branch [
      | then-has w ↦ rw w.covered-is (covered-through s f c.args.n C (test ∙ w.if-has.true) (R.row k h))
      | else-has w ↦ rw w.covered-is (covered-past s f c.args.n C (test ∙ w.if-has.false))
    ]

pub returns : goal.returns
returns c = λ s f R T. let e : c.loop-k.k ≡ c.args.n = omega (arith, c.loop-k-test.false) in rw e at (c.loop-k.invariant s f R T)
