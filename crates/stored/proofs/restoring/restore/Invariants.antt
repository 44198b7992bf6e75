-- `restore` meets its contract: the table has the owners of entries that may come next, what the whole search finds
-- is what the search of the
-- entries left finds, and the rows are those of the entries passed.
use Rattle.std.proofs.Common.{◌≡◌, ◌+◌, ◌-◌}
use Rattle.base.proofs.Lists.{listed}
use Rattle.base.specs.Stores.{stored}
use Rattle.blocks.specs.Faults.{first, rows_from}
use Rattle.stored.proofs.RestoredLaws.{row_packed}
use Rattle.stored.proofs.WalkingLaws.{Kept}
use Rattle.stored.specs.Stored.{stored_entries}
use Rattle.stored.specs.Walking.{stored_rows}
use Rattle.stored.proofs.restoring.restore.Given as goal

abbrev pub invariant-loop-before : goal.invariant-loop-before
invariant-loop-before l = record {
  kept : Kept (stored_entries l.s) l.last l.most l.before;
  rest : first (rows_from (stored_rows (stored_entries l.s)) 1 l.total) ≡ first (rows_from (stored_rows (stored_entries l.s)) (l.before + 1) (l.total - l.before));
  rows : l.rows ≡ stored l.fn.rows 0 (listed (row_packed (stored_entries l.s)) 1 l.before);
}
