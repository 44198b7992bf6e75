-- `load` meets its contract: the entries gone over are packed, and what stands before them stays.
use Rattle.std.specs.Prelude.{ℕ, ◌≡◌, ◌<◌, get_or}
use Rattle.earning.proofs.AttemptLaws.{Loaded}
use Rattle.earning.proofs.attempt.load.Given as goal

abbrev pub invariant-loop-i : goal.invariant-loop-i
invariant-loop-i l = record {
  loaded : Loaded l.others l.part.bytes.now l.entries l.i;
  before : (j : ℕ) → j < l.others → get_or l.entries j 0 ≡ get_or l.initial.entries j 0;
}
