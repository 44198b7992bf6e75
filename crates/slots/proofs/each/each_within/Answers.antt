-- `each_within` meets its contract: its own tables are cleared and long enough, and the slots of the first then stand in them.
use Prim.Native.Nat.{ℕ}
use borrow.Author.Rules.{rules}
use lib.ListN.{length-replicate}
use native.Mathlib.Omega.{arith}
use Rattle.slots.proofs.LentAgain.{kept-again, marked-again}
use Rattle.slots.proofs.filling.FillingLaws.{ready-zeros}
use Rattle.slots.proofs.marking.MarkingLaws.{unmarked-new}
use Rattle.slots.proofs.each.each_within.Goals as goal

pub chained_slots-used-requires : goal.chained_slots-used-requires
chained_slots-used-requires g c =
    let a = c.requires in
    (omega arith, (a.5, a.7, omega (arith, a.1, length-replicate {A = ℕ} g.row.N 0), ready-zeros _ g.row.N g.row.BUCKETS g.row.CELLS a.1 a.4 a.5 a.6 a.7, unmarked-new _ _ _ c.none-marks.ensures a.9))

pub bounds-work-0 : goal.bounds-work-0
bounds-work-0 g c = omega (arith, c.chained_slots-used.ensures.same.5, length-replicate {A = ℕ} g.row.N 0, c.requires.1)

pub of-slots-requires : goal.of-slots-requires
of-slots-requires g c =
    let s = c.chained_slots-used.ensures.chained in
    (omega arith, (omega arith, (kept-again s.kept (search rules), s.settled'.tabled.few)))

pub new-supplier-requires : goal.new-supplier-requires
new-supplier-requires g c =
    let r = c.of-slots.ensures in
    (omega arith, (omega arith, (c.requires.0, rw (r.0, r.2) (marked-again c.chained_slots-used.ensures.marked (search rules)))))

pub returns : goal.returns
returns g c =
    let s = c.chained_slots-used.ensures.chained in
    let r = c.of-slots.ensures in
    let held = c.new-supplier.ensures.held _ _ (rw (r.0, r.2) s.settled'.tabled) (s.settled'.bads 0) in
    (rw c.new-supplier.ensures.same.0 at c.each.ensures) _ held
