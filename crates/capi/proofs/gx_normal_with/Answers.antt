use Rattle.answers.proofs.Calls.{normal_refuses, normal_stays}
use Rattle.answers.proofs.PromiseKept.{normalised-named}
use Rattle.capi.proofs.gx_normal_with.Goals as goal

pub returns-clause-refuses : goal.returns-clause-refuses
returns-clause-refuses c = normal_refuses _ _ _ _

pub returns-clause-keeps : goal.returns-clause-keeps
returns-clause-keeps c = normal_stays _ _ _ _

pub returns-clause-means : goal.returns-clause-means
returns-clause-means c = λ k. normalised-named _ _ _ _
