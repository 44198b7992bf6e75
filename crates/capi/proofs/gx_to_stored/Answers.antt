use Rattle.stored.proofs.PromiseKept.{store-exactly, store-unchanged, stores}
use Rattle.capi.proofs.gx_to_stored.Goals as goal

pub returns-clause-refuses : goal.returns-clause-refuses
returns-clause-refuses c = store-exactly _ _

pub returns-clause-keeps : goal.returns-clause-keeps
returns-clause-keeps c = store-unchanged _ _

pub returns-clause-means : goal.returns-clause-means
returns-clause-means c = λ n e. stores _ _ e
