use Rattle.compare.proofs.Cases as compare
use Rattle.fit.proofs.Cases.{cases-show}
use Rattle.normal.proofs.Cases as normal
use Rattle.laws.proofs.desk_examples.Goals as goal

pub returns : goal.returns
returns c = (compare.lines-right, normal.lines-right, cases-show)
