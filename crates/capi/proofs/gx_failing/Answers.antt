use Rattle.answers.proofs.FailingAnswered.{failing-refused-exactly, failing-unchanged, fails}
use Rattle.capi.proofs.gx_failing.Goals as goal

pub returns-clause-refuses : goal.returns-clause-refuses
returns-clause-refuses c = failing-refused-exactly _ _ _ _

pub returns-clause-keeps : goal.returns-clause-keeps
returns-clause-keeps c = failing-unchanged _ _ _ _

pub returns-clause-means : goal.returns-clause-means
returns-clause-means c = λ yes e. fails _ _ _ _ e
