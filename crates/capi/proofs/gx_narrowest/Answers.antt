use Rattle.answers.proofs.NarrowestKept.{narrowest_means}
use Rattle.answers.proofs.NarrowestOrder.{narrowest_refuses, narrowest_stays}
use Rattle.answers.proofs.NarrowestSheets.{narrowest_joins}
use Rattle.capi.proofs.gx_narrowest.Goals as goal

pub returns-clause-refuses : goal.returns-clause-refuses
returns-clause-refuses c = narrowest_refuses _ _ _ _ _

pub returns-clause-keeps : goal.returns-clause-keeps
returns-clause-keeps c = narrowest_stays _ _ _ _ _

pub returns-clause-means : goal.returns-clause-means
returns-clause-means c = λ k e. narrowest_means _ _ _ _ _ k e

pub returns-clause-sheets : goal.returns-clause-sheets
returns-clause-sheets c = λ k e. narrowest_joins _ _ _ _ _ k e
