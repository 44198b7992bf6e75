-- `has_beside` meets its contract: the first of a pair is the odd number, and stands beside the second.
use Rattle.pairs.proofs.BesideLaws.{beside-even, beside-odd}
use Rattle.pairs.proofs.sides.Sides.has_beside.Goals.{then-k-eq1, else-k-eq1}
use Rattle.pairs.proofs.sides.Sides.has_beside.Goals as goal

pub returns : goal.returns
returns c = λ P has M h.
    elim c.if-k-eq1.branch [
      | then-k-eq1 w ↦ rw w.side-is (beside-odd M c.args.k c.requires.0 h w.if-k-eq1.true)
      | else-k-eq1 w ↦ rw w.side-is (beside-even M c.args.k c.requires.0 h w.if-k-eq1.false)
    ]
