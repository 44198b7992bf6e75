-- `settle` meets its contract: the slots above are settled.
use Prim.Native.Nat.{◌-◌, ◌≤◌}
use lib.ListN.{length}
use mathlib.Core.Path.{◌≡◌}
use Rattle.slots.specs.code.Tables.{Settling}
use Rattle.slots.proofs.settle.settle.Given as goal

abbrev pub invariant-loop-s : goal.invariant-loop-s
invariant-loop-s l = (l.s - 1 ≤ l.used) × Settling l.initial.table l.used (l.s - 1) l.table l.bad l.full × (length l.bad ≡ length l.initial.bad) × (length l.full ≡ length l.initial.full)
