use Rattle.answers.proofs.CatalogueUnfolded.{catalogue-unfolded}
use Rattle.answers.proofs.NarrowestUnfolded.{narrowest-unfolded}
use Rattle.answers.proofs.Unfolded.{comparison-unfolded, fit-unfolded, normal-unfolded}
use Rattle.laws.proofs.as_unfolded.Goals as goal

pub returns : goal.returns
returns c = (fit-unfolded, normal-unfolded, comparison-unfolded, catalogue-unfolded, narrowest-unfolded)
