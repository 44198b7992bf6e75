-- `each_failing_entry` meets its contract: the table has the states of the entries passed, and each of them has its byte.
use Rattle.std.proofs.Common.{◌≡◌, List, length, eqb, not}
use Rattle.base.proofs.Lists.{listed}
use Rattle.base.specs.Range.{bit}
use Rattle.base.specs.Search.{first_from}
use Rattle.base.specs.Stores.{stored}
use Rattle.blocks.proofs.Refusing.InOrder.{OverNumbered}
use Rattle.blocks.specs.Entries.{entries_of}
use Rattle.pairs.specs.Pairs.{under}
use Rattle.passes.specs.code.Slots.{Slot}
use Rattle.slots.specs.code.States.{Indexed, Stated, holds_by_slots}
use Rattle.slots.proofs.slots.Slots.each_failing_entry.Given as goal

abbrev pub invariant-loop-before : goal.invariant-loop-before
invariant-loop-before g l = record {
  goes : (goal.iterator-loop-before g).can_next l.before-iterator;
  ends : (goal.iterator-loop-before g).is_finite l.before-iterator;
  over : OverNumbered l.d l.total l.initial.before-iterator;
  stated : Stated l.d l.self.table.now g.row.BUCKETS l.self.cells.now l.self.used (length l.yielded) l.states;
  sized : length l.bytes ≡ 1008;
  so-far : (ss : List Slot) → Indexed ss l.self.table.now g.row.BUCKETS l.self.cells.now l.self.used
      → (l.none ≡ eqb (first_from (holds_by_slots (under l.marked.exclusions.pairs.now) ss (entries_of l.d)) 1 (length l.yielded)) 0)
      × (l.bytes ≡ stored l.initial.bytes 0 (listed (λ n. bit (not (holds_by_slots (under l.marked.exclusions.pairs.now) ss (entries_of l.d) n))) 1 (length l.yielded)));
}
