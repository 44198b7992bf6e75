-- `push_next` meets its contract: the last one again is passed.
use mathlib.Core.Path.{refl}
use Rattle.narrowest.proofs.lacks.NoteLaws.{next-new, next-same}
use Rattle.narrowest.proofs.rows.CountLaws.{counted-as}
use Rattle.narrowest.proofs.lacks.push_next.Goals as goal

pub returns-then-x-last : goal.returns-then-x-last
returns-then-x-last c = next-same c.args.owner c.args.last c.args.x c.requires c.if-x-last.true

pub returns : goal.returns
returns c = counted-as c.push_leaf.ensures refl (next-new c.args.owner c.args.last c.args.x c.if-x-last.false)
