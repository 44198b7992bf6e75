-- `build` meets its contract: the entries passed are entered.
use Rattle.std.proofs.Common.{◌≡◌, length}
use Rattle.blocks.proofs.Refusing.InOrder.{OverNumbered}
use Rattle.slots.specs.code.Tables.{Building, Exact}
use Rattle.slots.proofs.build.build.Given as goal

abbrev pub invariant-loop-before : goal.invariant-loop-before
invariant-loop-before g l = record {
  goes : (goal.iterator-loop-before g).can_next l.before-iterator;
  ends : (goal.iterator-loop-before g).is_finite l.before-iterator;
  over : OverNumbered l.d l.total l.initial.before-iterator;
  building : Building l.d (length l.yielded) l.used l.table g.row.BUCKETS l.cells l.node;
  exact : Exact l.initial.table l.table l.used;
  tables : length l.table ≡ length l.initial.table;
  nodes : length l.node ≡ length l.initial.node;
}
