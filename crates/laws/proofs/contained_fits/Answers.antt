use Rattle.answers.proofs.PromiseKept.{contained-fits-named}
use Rattle.laws.proofs.contained_fits.Goals as goal

pub returns : goal.returns
returns c = contained-fits-named
