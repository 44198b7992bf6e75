-- `double_in_table` meets its contract: the table has the keys of the groups among the entries passed, and none of these breaks number 9.
use Rattle.std.proofs.Common.{◌≡◌, ◌+◌, ◌-◌, length}
use Rattle.base.specs.Search.{first_from}
use Rattle.blocks.proofs.Refusing.InOrder.{OverNumbered}
use Rattle.blocks.specs.Entries.{entries_of}
use Rattle.blocks.specs.Single.{single_ok}
use Rattle.blocks.specs.code.SingleTable.{Kept}
use Rattle.reading.proofs.single.double_in_table.Given as goal

abbrev pub invariant-loop-before : goal.invariant-loop-before
invariant-loop-before g l = record {
  goes : (goal.iterator-loop-before g).can_next l.before-iterator;
  ends : (goal.iterator-loop-before g).is_finite l.before-iterator;
  over : OverNumbered l.s l.n l.initial.before-iterator;
  kept : Kept (entries_of l.s) l.firsts (length l.yielded);
  rest : first_from (single_ok (entries_of l.s)) 1 l.n ≡ first_from (single_ok (entries_of l.s)) (length l.yielded + 1) (l.n + 1 - (length l.yielded + 1));
}
