-- `neutral` meets its contract.
use Rattle.earning.proofs.TriedLaws.{neutral_packed}
use Rattle.earning.proofs.tried.neutral.Goals as goal

pub returns : goal.returns
returns c = λ e b h. neutral_packed c.args.x e b h
