-- `put` meets its contract.
use Rattle.std.proofs.Common.{arith}
use Rattle.writing.proofs.WritingLaws.{mid-stored}
use Rattle.desk.proofs.stores.put.Goals as goal

pub returns : goal.returns
returns c = rw c.copy_from_slice.ensures.after (mid-stored _ _ _ _ (omega arith) (omega arith))
