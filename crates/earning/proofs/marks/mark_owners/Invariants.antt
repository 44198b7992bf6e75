-- `mark_owners` meets its contract: the entries gone over, the last first, have marked their owners.
use Rattle.std.specs.Prelude.{◌≤◌}
use Rattle.blocks.specs.Entries.{entries_of}
use Rattle.earning.proofs.MarkLaws.{Marking}
use Rattle.earning.specs.code.Tried.{set_of}
use Rattle.earning.proofs.marks.mark_owners.Given as goal

abbrev pub invariant-loop-k : goal.invariant-loop-k
invariant-loop-k l = (l.k ≤ l.total) × Marking (entries_of l.d) (set_of l.initial.kept) l.kept l.k
