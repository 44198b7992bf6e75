use Rattle.answers.proofs.EarningAnswered.{earning-refused-exactly, earning-unchanged, earns}
use Rattle.capi.proofs.gx_earning.Goals as goal

pub returns-clause-refuses : goal.returns-clause-refuses
returns-clause-refuses c = earning-refused-exactly _ _ _ _

pub returns-clause-keeps : goal.returns-clause-keeps
returns-clause-keeps c = earning-unchanged _ _ _ _

pub returns-clause-means : goal.returns-clause-means
returns-clause-means c = λ yes e. earns _ _ _ _ e
