use Rattle.std.proofs.Common.{◌≡◌, ◌∙◌, ap}
use Rattle.drafts.proofs.PromiseKept.{begins, write-keeps, write-refused-exactly, writes-out}
use Rattle.drafts.specs.Buffer.{held_at}
use Rattle.capi.proofs.gx_desk_write.Goals as goal

pub returns-clause-refuses : goal.returns-clause-refuses
returns-clause-refuses c = write-refused-exactly _ _

pub returns-clause-keeps : goal.returns-clause-keeps
returns-clause-keeps c = write-keeps _ _

pub returns-clause-means : goal.returns-clause-means
returns-clause-means c = writes-out _ _

pub returns-clause-begins : goal.returns-clause-begins
returns-clause-begins c = λ b calls Z e. ap held_at e ∙ begins b Z calls
