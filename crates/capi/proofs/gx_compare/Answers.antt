use Rattle.answers.proofs.Calls.{comparison_refuses, comparison_stays, decided_plainly}
use Rattle.capi.proofs.gx_compare.Goals as goal

pub returns-clause-refuses : goal.returns-clause-refuses
returns-clause-refuses c = comparison_refuses _ _ _ _ _

pub returns-clause-keeps : goal.returns-clause-keeps
returns-clause-keeps c = comparison_stays _ _ _ _ _

pub returns-clause-means : goal.returns-clause-means
returns-clause-means c = decided_plainly _ _ _
