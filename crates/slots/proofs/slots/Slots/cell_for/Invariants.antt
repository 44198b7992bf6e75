-- `cell_for` meets its contract: the slots in the cells passed have other keys, and each bit of the key's quotient passes one.
use Rattle.base.specs.Ways.{Passed, by_quotient}
use Rattle.slots.specs.code.Tables.{keys_of}
use Rattle.slots.proofs.slots.Slots.cell_for.Given as goal

abbrev pub invariant-loop-bit : goal.invariant-loop-bit
invariant-loop-bit g l = Passed (keys_of l.self.table.now) l.self.cells.now (by_quotient g.row.BUCKETS) l.key l.bit l.c
