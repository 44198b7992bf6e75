-- `cell_for` meets its contract: the numbers in the cells passed have other keys, and each bit of the key passes one.
use Rattle.std.specs.Prelude.{take}
use Rattle.base.specs.Keys.{numbered}
use Rattle.base.specs.Ways.{Passed, by_product}
use Rattle.firsts.proofs.firsts.cell_for.Given as goal

abbrev pub invariant-loop-bit : goal.invariant-loop-bit
invariant-loop-bit g l = Passed (numbered (take l.used l.keys)) l.cells (by_product g.row.MOST) l.key l.bit l.c
