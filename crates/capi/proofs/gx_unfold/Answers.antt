use Rattle.answers.proofs.Unfolding.{unfold-refused-exactly, unfold-unchanged, unfolds}
use Rattle.capi.proofs.gx_unfold.Goals as goal

pub returns-clause-refuses : goal.returns-clause-refuses
returns-clause-refuses c = unfold-refused-exactly _ _ _

pub returns-clause-keeps : goal.returns-clause-keeps
returns-clause-keeps c = unfold-unchanged _ _ _

pub returns-clause-means : goal.returns-clause-means
returns-clause-means c = unfolds _ _ _
