-- `check_in_tables` meets its contract: the tables have the single links among the entries passed, and none of these is refused.
use Rattle.std.proofs.Common.{◌≡◌, ◌+◌, ◌-◌, length}
use Rattle.blocks.proofs.Refusing.InOrder.{OverNumbered}
use Rattle.blocks.specs.Entries.{entries_of}
use Rattle.blocks.specs.Faults.{first, rows_from}
use Rattle.delivered.specs.Reading.{delivered_rows}
use Rattle.delivered.specs.code.Noted.{Noted}
use Rattle.delivered.proofs.reader.check_in_tables.Given as goal

abbrev pub invariant-loop-before : goal.invariant-loop-before
invariant-loop-before g l =
    let es = entries_of l.blocks.bytes.now in record {
      goes : (goal.iterator-loop-before g).can_next l.before-iterator;
      ends : (goal.iterator-loop-before g).is_finite l.before-iterator;
      over : OverNumbered l.blocks.bytes.now l.blocks.total l.initial.before-iterator;
      noted : Noted es l.firsts l.leads.items (length l.yielded);
      used : l.leads.used ≡ length l.firsts;
      rest : first (rows_from (delivered_rows l.total es) 1 (length es)) ≡ first (rows_from (delivered_rows l.total es) (length l.yielded + 1) (l.blocks.total + 1 - (length l.yielded + 1)));
    }
