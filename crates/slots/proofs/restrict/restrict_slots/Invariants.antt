-- `restrict_slots` meets its contract: the slots so far are under the list.
use Prim.Native.Nat.{◌-◌, ◌≤◌}
use Rattle.slots.specs.code.Tables.{Restricted}
use Rattle.slots.proofs.restrict.restrict_slots.Given as goal

abbrev pub invariant-loop-s : goal.invariant-loop-s
invariant-loop-s l = (l.s - 1 ≤ l.used) × Restricted l.exclusions.pairs.now l.initial.table l.used (l.s - 1) l.table
