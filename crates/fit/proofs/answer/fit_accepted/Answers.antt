-- `fit_accepted` meets its contract.
use Rattle.std.proofs.Common.{◌∙◌, sym}
use Rattle.fit.proofs.AnswerLaws.{counted-judged, counted-refused}
use Rattle.fit.proofs.answer.fit_accepted.Goals as goal

pub judge_top-j-requires : goal.judge_top-j-requires
judge_top-j-requires c = (c.requires, rw c.from.ensures (sym c.read.ensures ∙ c.in-Ok.is))

pub returns-in-Err : goal.returns-in-Err
returns-in-Err c = counted-refused _ _ c.read.ensures c.in-Err.is c.refused.ensures

pub returns-in-Ok : goal.returns-in-Ok
returns-in-Ok c = let j = c.judge_top-j.ensures in counted-judged _ _ c.read.ensures c.in-Ok.is j.0 j.1 j.2
