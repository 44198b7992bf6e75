use Rattle.answers.proofs.ByNumber.{catalogue-seven, unfold-seven}
use Rattle.answers.proofs.NarrowestOrder.{narrowest-seven}
use Rattle.answers.proofs.Seven.{comparison-seven, fit-never-seven, normal-seven}
use Rattle.laws.proofs.seven_last.Goals as goal

pub returns : goal.returns
returns c = (fit-never-seven, normal-seven, comparison-seven, unfold-seven, catalogue-seven, narrowest-seven)
