-- `covered_by` meets its contract: what is above those passed is joined.
use Rattle.std.proofs.Common.{ℕ, Bool}
use Rattle.hierarchy.proofs.WordLaws.{passed}
use Rattle.hierarchy.specs.code.Words.{Rows, Told}
use Rattle.hierarchy.proofs.superiors.covered_by.Given as goal

abbrev pub invariant-loop-k : goal.invariant-loop-k
invariant-loop-k l = (s : ℕ → ℕ → Bool) (f : ℕ → Bool) → Rows s l.n l.n l.above → Told f l.n l.row → Told (passed s f l.n l.k) l.n l.covered
