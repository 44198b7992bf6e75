use Rattle.answers.proofs.Calls.{comparison_refuses, comparison_stays}
use Rattle.answers.proofs.PromiseKept.{decided-named}
use Rattle.capi.proofs.gx_compare_with.Goals as goal

pub returns-clause-refuses : goal.returns-clause-refuses
returns-clause-refuses c = comparison_refuses _ _ _ _ _

pub returns-clause-keeps : goal.returns-clause-keeps
returns-clause-keeps c = comparison_stays _ _ _ _ _

pub returns-clause-means : goal.returns-clause-means
returns-clause-means c = λ l q. decided-named _ _ _ _ _ q l
