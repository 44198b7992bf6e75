use Rattle.answers.proofs.ItemsKept.{items-refused-exactly, items-unchanged, marks-items}
use Rattle.capi.proofs.gx_fit_all.Goals as goal

pub returns-clause-refuses : goal.returns-clause-refuses
returns-clause-refuses c = items-refused-exactly _ _ _ _ _ _

pub returns-clause-keeps : goal.returns-clause-keeps
returns-clause-keeps c = items-unchanged _ _ _ _ _ _

pub returns-clause-means : goal.returns-clause-means
returns-clause-means c = λ n e. marks-items _ _ _ _ _ _ e
