-- `is_every` meets its contract.
use Rattle.earning.proofs.TriedLaws.{every_packed}
use Rattle.earning.proofs.tried.is_every.Goals as goal

pub returns : goal.returns
returns c = λ e b h. rw c.from.ensures (every_packed c.args.x e b h)
