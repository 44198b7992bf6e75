use Rattle.compare.specs.Answer.{returned}
use Rattle.std.proofs.Common.{ap}
use Rattle.laws.proofs.yes_and_no.Goals as goal

pub returns : goal.returns
returns c = (λ P D c d out. ap returned, λ P D c d out j k. ap returned, λ P D c d out k i p. ap returned)
