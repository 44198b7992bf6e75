use Rattle.answers.proofs.Calls.{fit_refuses, fits_plainly}
use Rattle.capi.proofs.gx_fit.Goals as goal

pub returns-clause-refuses : goal.returns-clause-refuses
returns-clause-refuses c = fit_refuses _ _ _ _

pub returns-clause-means : goal.returns-clause-means
returns-clause-means c = fits_plainly _ _
