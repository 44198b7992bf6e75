use Rattle.answers.proofs.Calls.{counts_plainly, fit_refuses}
use Rattle.capi.proofs.gx_fit_counted.Goals as goal

pub returns-clause-refuses : goal.returns-clause-refuses
returns-clause-refuses c = fit_refuses _ _ _ _

pub returns-clause-means : goal.returns-clause-means
returns-clause-means c = counts_plainly _ _
