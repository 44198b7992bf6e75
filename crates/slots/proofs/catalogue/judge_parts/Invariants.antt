-- `judge_parts` meets its contract: the bytes of the services passed stand in the table, and the rest gives the answer.
use Prim.Native.Nat.{◌+◌, ℕ}
use lib.ListN.{length}
use mathlib.Core.List.{List}
use mathlib.Core.Path.{◌≡◌}
use Rattle.lists.specs.Parts.{parts_of}
use Rattle.pairs.specs.Pairs.{under}
use Rattle.slots.proofs.catalogue.CatalogueLaws.{Passing}
use Rattle.slots.specs.code.Tables.{Held}
use Rattle.slots.specs.code.Judging.{bytes_read}
use Rattle.slots.proofs.catalogue.judge_parts.Given as goal

abbrev pub invariant-loop-part : goal.invariant-loop-part
invariant-loop-part l = (l.n + length l.part-iterator ≡ length (parts_of l.list))
    × ((s : List ℕ) → Held (under l.supplier.marked.exclusions.pairs.now) s l.supplier.slots.used l.supplier.slots.table.now 4093 l.supplier.slots.cells.now l.supplier.impossible
    → Passing l.supplier.marked.exclusions.pairs.now (bytes_read l.names.read) s l.list l.initial.answers l.part-iterator l.n l.answers)
