-- `entry_near_end` meets its contract: field by field.
use Rattle.blocks.specs.Entries.{entry_from}
use Rattle.blocks.proofs.entries.entry_near_end.Goals as goal

pub returns : goal.returns
unfolding entry_from
returns c = cc
