-- `build_rows` meets its contract: the entries passed are entered.
use Rattle.std.proofs.Common.{◌≡◌, length}
use Rattle.slots.specs.code.Rows.{rows_bytes}
use Rattle.slots.specs.code.Tables.{Building, Exact}
use Rattle.slots.proofs.rows.build_rows.Given as goal

abbrev pub invariant-loop-before : goal.invariant-loop-before
invariant-loop-before g l = record {
  building : Building (rows_bytes l.listing.rows.now) l.before l.used l.table g.row.BUCKETS l.cells l.node;
  exact : Exact l.initial.table l.table l.used;
  tables : length l.table ≡ length l.initial.table;
  nodes : length l.node ≡ length l.initial.node;
}
