use Rattle.answers.proofs.NarrowestKept.{always-answered}
use Rattle.laws.proofs.narrowest_has_room.Goals as goal

pub returns : goal.returns
returns c = always-answered
