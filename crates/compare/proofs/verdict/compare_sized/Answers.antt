-- `compare_sized` meets its contract: its table has room for the first description.
use Rattle.compare.proofs.verdict.RoomLaws.{roomy}
use Rattle.compare.proofs.verdict.compare_sized.Goals as goal

pub compare_in-requires : goal.compare_in-requires
compare_in-requires g c = roomy _ g.row.SLOTS c.requires.0
