-- `fill` meets its contract: the tables are those of the entries gone over, which are the last.
use Rattle.blocks.specs.Entries.{entries_of}
use Rattle.places.proofs.PlaceLaws.{ChainedFrom}
use Rattle.places.proofs.tables.fill.Given as goal

abbrev pub invariant-loop-n : goal.invariant-loop-n
invariant-loop-n l = ChainedFrom (entries_of l.d) l.first l.next l.n
