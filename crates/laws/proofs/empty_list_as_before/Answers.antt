use Rattle.answers.proofs.NarrowestWritten as narrowest
use Rattle.compare.proofs.AnswerLaws as compare
use Rattle.fit.proofs.AnswerLaws as fit
use Rattle.normal.proofs.AnswerLaws as normal
use Rattle.laws.proofs.empty_list_as_before.Goals as goal

pub returns : goal.returns
returns c = (fit.empty-list, normal.empty-list, compare.empty-list, narrowest.empty-list)
