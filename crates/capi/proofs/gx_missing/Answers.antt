use Rattle.answers.proofs.MissingAnswered.{lacks, missing-refused-exactly, missing-unchanged}
use Rattle.capi.proofs.gx_missing.Goals as goal

pub returns-clause-refuses : goal.returns-clause-refuses
returns-clause-refuses c = missing-refused-exactly _ _ _ _

pub returns-clause-keeps : goal.returns-clause-keeps
returns-clause-keeps c = missing-unchanged _ _ _ _

pub returns-clause-means : goal.returns-clause-means
returns-clause-means c = λ a e. lacks _ _ _ _ e
