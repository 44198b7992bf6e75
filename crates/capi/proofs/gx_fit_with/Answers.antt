use Rattle.answers.proofs.Calls.{fit_refuses}
use Rattle.answers.proofs.PromiseKept.{fits-named-exactly}
use Rattle.capi.proofs.gx_fit_with.Goals as goal

pub returns-clause-refuses : goal.returns-clause-refuses
returns-clause-refuses c = fit_refuses _ _ _ _

pub returns-clause-means : goal.returns-clause-means
returns-clause-means c = fits-named-exactly _ _ _ _
