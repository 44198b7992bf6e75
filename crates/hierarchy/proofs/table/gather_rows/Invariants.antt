-- `gather_rows` meets its contract: the rows and columns so far are gathered.
use Rattle.hierarchy.specs.code.Words.{Rows, cell, turned}
use Rattle.hierarchy.proofs.table.gather_rows.Given as goal

abbrev pub invariant-loop-i : goal.invariant-loop-i
invariant-loop-i l = Rows (cell l.table) l.n l.i l.up × Rows (turned (cell l.table)) l.n l.i l.down
