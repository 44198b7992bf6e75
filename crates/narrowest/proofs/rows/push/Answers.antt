-- `push` meets its contract: stored where there is room.
use Rattle.narrowest.proofs.rows.CountLaws.{counted-one, counted-past}
use Rattle.narrowest.proofs.rows.push.Goals as goal

pub returns-then-rows-count : goal.returns-then-rows-count
returns-then-rows-count c = counted-past c.if-rows-count.true c.requires

pub returns : goal.returns
returns c = counted-one c.if-rows-count.false
