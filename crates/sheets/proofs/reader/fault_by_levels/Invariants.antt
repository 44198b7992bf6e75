-- `fault_by_levels` meets its contract: the table holds the levels of the entries passed, and what the whole search
-- finds is what the search of the entries left finds.
use Rattle.std.proofs.Common.{◌≡◌, ◌+◌, ◌-◌, length}
use Rattle.blocks.proofs.Refusing.InOrder.{OverNumbered}
use Rattle.blocks.specs.Entries.{entries_of}
use Rattle.blocks.specs.Faults.{first, rows_from}
use Rattle.blocks.specs.code.ReadingSteps.{Levels}
use Rattle.blocks.specs.declared.Schema.TheVariants.{Description}
use Rattle.sheets.specs.Sheet.{sheet_rows}
use Rattle.sheets.proofs.reader.fault_by_levels.Given as goal

abbrev pub invariant-loop-before : goal.invariant-loop-before
invariant-loop-before l = record {
  goes : (goal.iterator-loop-before).can_next l.before-iterator;
  ends : (goal.iterator-loop-before).is_finite l.before-iterator;
  over : OverNumbered l.s l.total l.initial.before-iterator;
  levels : Levels Description (entries_of l.s) l.level (length l.yielded + 1);
  rest : first (rows_from (sheet_rows (entries_of l.s)) 1 l.total)
      ≡ first (rows_from (sheet_rows (entries_of l.s)) (length l.yielded + 1) (l.total + 1 - (length l.yielded + 1)));
}
