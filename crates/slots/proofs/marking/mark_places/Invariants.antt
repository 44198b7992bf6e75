-- `mark_places` meets its contract: the places of the slots so far are marked.
use Rattle.std.proofs.Common.{◌≡◌, ◌-◌, ◌≤◌, length}
use Rattle.slots.specs.code.Marking.{MarkedBy}
use Rattle.slots.specs.code.Tables.{slots_in}
use Rattle.slots.proofs.marking.mark_places.Given as goal

abbrev pub invariant-loop-s : goal.invariant-loop-s
invariant-loop-s l = record {
  within : l.s - 1 ≤ l.used;
  size : length l.marks ≡ length l.initial.marks;
  marked : MarkedBy l.exclusions.pairs.now (slots_in l.table (l.s - 1)) l.marks;
}
