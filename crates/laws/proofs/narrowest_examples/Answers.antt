use Rattle.answers.proofs.NarrowestExamples.{lines-join}
use Rattle.laws.proofs.narrowest_examples.Goals as goal

pub returns : goal.returns
returns c = lines-join
