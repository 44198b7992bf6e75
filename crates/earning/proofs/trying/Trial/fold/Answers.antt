use mathlib.Core.Path.{refl}
use native.Mathlib.Omega.{arith}
use Rattle.earning.proofs.FoldLaws.{turned-all, turned-then}
use Rattle.earning.proofs.trying.Trial.fold.Goals as goal

pub loop-at-init : goal.loop-at-init
loop-at-init c = record { some = omega arith; most = omega arith; left = omega arith; goes = λ pre es L more o. record { same = refl; open' = o } }

pub turn-at-requires : goal.turn-at-requires
turn-at-requires c = let l = c.loop-at in (omega (arith, c.loop-at-test.true), l.invariant.left, l.invariant.some, l.invariant.most)

pub loop-at-preserved : goal.loop-at-preserved
loop-at-preserved c =
    let l = c.loop-at in
    let n = c.turn-at.ensures.next in
    record {
      some = n.0;
      most = n.1;
      left = omega (arith, n.2, l.invariant.left);
      goes = λ pre es L more o. let t = l.invariant.goes pre es L more o in turned-then _ t (c.turn-at.ensures.goes pre es L more t.open');
    }

pub returns : goal.returns
returns c = λ pre es L more o. turned-all _ (omega (arith, c.loop-at-test.false)) (c.loop-at.invariant.goes pre es L more o)
