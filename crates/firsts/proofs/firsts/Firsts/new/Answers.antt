-- `new` meets its contract.
use Rattle.firsts.proofs.HeldLaws.{held-start}
use Rattle.firsts.proofs.firsts.Firsts.new.Goals as goal

pub invariant_of-result : goal.invariant_of-result
invariant_of-result g c = held-start g.row.KEYS g.row.CELLS g.row.MOST
