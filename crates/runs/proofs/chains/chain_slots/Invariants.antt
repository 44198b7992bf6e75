-- `chain_slots` meets its contract: at slot n those below it are on their chains.
use Prim.Native.Nat.{◌+◌, ◌-◌, ◌≤◌}
use mathlib.Core.Path.{◌≡◌}
use Rattle.runs.specs.code.Chained.{befores_after, lasts_after}
use Rattle.runs.proofs.chains.chain_slots.Given as goal

abbrev pub invariant-loop-n : goal.invariant-loop-n
invariant-loop-n l = (1 ≤ l.n) × (l.n ≤ l.used + 1) × (l.last ≡ lasts_after l.table l.initial.last (l.n - 1)) × (l.before ≡ befores_after l.table l.initial.last l.initial.before (l.n - 1))
