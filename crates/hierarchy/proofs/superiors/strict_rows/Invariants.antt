-- `strict_rows` meets its contract: the rows so far are stored.
use Rattle.std.proofs.Common.{ℕ, Bool}
use Rattle.hierarchy.specs.code.Words.{Rows, turned}
use Rattle.meaning.specs.Hierarchy.{strict}
use Rattle.hierarchy.proofs.superiors.strict_rows.Given as goal

abbrev pub invariant-loop-i : goal.invariant-loop-i
invariant-loop-i l = (t : ℕ → ℕ → Bool) → Rows t l.n l.n l.up → Rows (turned t) l.n l.n l.down → Rows (strict t) l.n l.i l.above
