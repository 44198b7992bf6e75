-- `says` meets its contract.
use mathlib.Core.Bool.{not}
use mathlib.Core.Path.{ap}
use Rattle.blocks.specs.Entries.{nth}
use Rattle.earning.proofs.TriedLaws.{tried-at}
use Rattle.earning.proofs.tried.Tried.says.Goals as goal

pub returns : goal.returns
returns c = λ pre es L. let p = tried-at L c.args.k c.requires.0 c.requires.1 in ap not (c.is_every.ensures (nth es c.args.k) p.1 p.0)
