-- `fit_counted` meets its contract.
use Rattle.std.proofs.Common.{◌∙◌, sym}
use Rattle.fit.proofs.AnswerLaws.{counted-first, counted-first-refused}
use Rattle.fit.proofs.answer.fit_counted.Goals as goal

pub fit_accepted-requires : goal.fit_accepted-requires
fit_accepted-requires c = rw c.from.ensures (sym c.read.ensures ∙ c.in-Ok.is)

pub returns-in-Err : goal.returns-in-Err
returns-in-Err c = counted-first-refused _ _ c.read.ensures c.in-Err.is c.refused.ensures

pub returns-in-Ok : goal.returns-in-Ok
returns-in-Ok c = counted-first _ _ c.read.ensures c.in-Ok.is c.fit_accepted.ensures
