-- `judge_row` meets its contract: the bytes of the services passed stand in the table.
use Prim.Native.Nat.{ℕ}
use lib.ListN.{take}
use mathlib.Core.List.{List, map}
use mathlib.Core.Path.{◌≡◌}
use Rattle.base.specs.Stores.{stored}
use Rattle.lists.specs.Parts.{parts_of}
use Rattle.pairs.specs.Pairs.{under}
use Rattle.slots.specs.Containment.{contained_bit}
use Rattle.slots.specs.code.Tables.{Held}
use Rattle.slots.proofs.containment.judge_row.Given as goal

abbrev pub invariant-loop-j : goal.invariant-loop-j
invariant-loop-j g l = (c : List ℕ) → Held (under l.supplier.marked.exclusions.pairs.now) c l.supplier.slots.used l.supplier.slots.table.now g.row.BUCKETS l.supplier.slots.cells.now l.supplier.impossible
    → l.table ≡ stored l.initial.table l.at (map (contained_bit (under l.supplier.marked.exclusions.pairs.now) c) (take l.j (parts_of l.services.list.now)))
