use Rattle.answers.proofs.RankingKept.{hierarchy-refused-exactly, hierarchy-unchanged, ranks}
use Rattle.capi.proofs.gx_hierarchy.Goals as goal

pub returns-clause-refuses : goal.returns-clause-refuses
returns-clause-refuses c = hierarchy-refused-exactly _ _ _

pub returns-clause-keeps : goal.returns-clause-keeps
returns-clause-keeps c = hierarchy-unchanged _ _ _

pub returns-clause-means : goal.returns-clause-means
returns-clause-means c = ranks _ _ _
