-- `leave_out` meets its contract: the entries gone over are left out.
use Rattle.std.specs.Prelude.{ℕ, ◌≡◌, ◌<◌, ◌&&◌, get_or, ltb, not, true}
use Rattle.earning.proofs.fold.leave_out.Given as goal

abbrev pub invariant-loop-k : goal.invariant-loop-k
invariant-loop-k l = (l.from < l.k) × ((j : ℕ) → get_or l.kept j true ≡ (get_or l.initial.kept j true && not (ltb l.from j && ltb j l.k)))
