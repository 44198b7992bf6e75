use Rattle.drafts.proofs.PromiseKept.{drafts, keeps, refused-exactly}
use Rattle.capi.proofs.gx_desk_add.Goals as goal

pub returns-clause-refuses : goal.returns-clause-refuses
returns-clause-refuses c = refused-exactly _ _

pub returns-clause-keeps : goal.returns-clause-keeps
returns-clause-keeps c = keeps _ _

pub returns-clause-means : goal.returns-clause-means
returns-clause-means c = drafts _ _
