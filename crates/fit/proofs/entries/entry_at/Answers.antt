-- `entry_at` meets its contract: the bytes are there, and are those of the entry.
use Rattle.std.proofs.Common.{arith}
use Rattle.fit.proofs.entries.EntryLaws.{has_small, has_there, has_read}
use Rattle.fit.proofs.entries.entry_at.Goals as goal

pub overflow_add-at : goal.overflow_add-at
overflow_add-at c = omega (arith, has_small c.requires c.place_of-at.ensures)

pub slice_bounds-as_chunks-end : goal.slice_bounds-as_chunks-end
slice_bounds-as_chunks-end c = omega (arith, has_there c.requires c.place_of-at.ensures)

pub returns : goal.returns
returns c = has_read c.requires c.place_of-at.ensures (omega arith) c.as_chunks.ensures.front c.from.ensures
