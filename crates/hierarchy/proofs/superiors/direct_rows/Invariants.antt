-- `direct_rows` meets its contract: the rows so far are stored.
use Rattle.std.proofs.Common.{ℕ, Bool}
use Rattle.hierarchy.specs.code.Words.{Rows, uncovered}
use Rattle.hierarchy.proofs.superiors.direct_rows.Given as goal

abbrev pub invariant-loop-i : goal.invariant-loop-i
invariant-loop-i l = (s : ℕ → ℕ → Bool) → Rows s l.n l.n l.above → Rows (uncovered s l.n) l.n l.i l.direct
