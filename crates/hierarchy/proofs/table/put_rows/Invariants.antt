-- `put_rows` meets its contract: the rows so far are stored, and those that are left give the output.
use Prim.Native.Nat.{◌+◌}
use lib.ListN.{drop, length}
use mathlib.Core.Path.{◌≡◌}
use Rattle.base.specs.Stores.{stored}
use Rattle.blocks.specs.Encoding.{joined}
use Rattle.hierarchy.specs.code.Words.{rows_in}
use Rattle.hierarchy.proofs.table.put_rows.Given as goal

abbrev pub invariant-loop-i : goal.invariant-loop-i
invariant-loop-i l = (length l.out ≡ length l.initial.out)
    × (l.behind + length (joined (drop l.i (rows_in l.rows l.n))) ≡ l.at + length (joined (rows_in l.rows l.n)))
    × (stored l.out l.behind (joined (drop l.i (rows_in l.rows l.n))) ≡ stored l.initial.out l.at (joined (rows_in l.rows l.n)))
