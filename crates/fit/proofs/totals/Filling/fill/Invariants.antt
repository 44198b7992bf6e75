-- `fill` meets its contract: after the entries passed the table is theirs.
use Rattle.std.proofs.Common.{◌≡◌, length}
use Rattle.blocks.proofs.Refusing.InOrder.{OverNumbered}
use Rattle.blocks.specs.Entries.{entries_of}
use Rattle.fit.specs.Totals.{TotalsOf, groups_up_to}
use Rattle.fit.specs.code.Bare.{Marked, any_entry}
use Rattle.fit.specs.code.Rows.{Small}
use Rattle.fit.proofs.totals.Filling.fill.Given as goal

abbrev pub invariant-loop-before : goal.invariant-loop-before
invariant-loop-before g l = record {
  goes : (goal.iterator-loop-before g).can_next l.before-iterator;
  ends : (goal.iterator-loop-before g).is_finite l.before-iterator;
  over : OverNumbered l.s l.total l.initial.before-iterator;
  small : Small (length l.yielded) l.self.rows l.self.used;
  totals : TotalsOf (entries_of l.s) (length l.yielded) l.self.rows l.self.used;
  adds : l.adds ≡ groups_up_to (entries_of l.s) (length l.yielded);
  marks : Marked any_entry (entries_of l.s) (length l.yielded) g.row.MOST l.marks;
}
