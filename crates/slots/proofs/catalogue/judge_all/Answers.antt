-- `judge_all` meets its contract: its own tables are cleared and long enough, and the slots of the supplier's description then stand in them.
use Prim.Native.Nat.{ℕ}
use lib.ListN.{length-replicate}
use native.Mathlib.Omega.{arith}
use borrow.Author.Rules.{rules}
use Rattle.slots.proofs.FailingLaws.{accepted-few}
use Rattle.slots.proofs.LentAgain.{kept-again, marked-again}
use Rattle.slots.proofs.filling.FillingLaws.{ready-zeros}
use Rattle.slots.proofs.marking.MarkingLaws.{unmarked-new}
use Rattle.slots.proofs.catalogue.judge_all.Goals as goal

pub chained_slots-used-requires : goal.chained_slots-used-requires
chained_slots-used-requires g c =
    let few = (accepted-few 1 _ c.args.c.read).1 in (
      omega arith,
      (
        omega arith,
        omega arith,
        omega (arith, few, length-replicate {A = ℕ} 1009 0),
        ready-zeros _ 1009 4093 6111 (omega (arith, few)) (omega arith) (omega arith) (omega arith) (omega arith),
        unmarked-new _ _ _ c.none-marks.ensures c.requires.3,
      ),
    )

pub bounds-work-0 : goal.bounds-work-0
bounds-work-0 g c = omega (arith, c.chained_slots-used.ensures.same.5, length-replicate {A = ℕ} 1009 0)

pub of-slots-requires : goal.of-slots-requires
of-slots-requires g c =
    let s = c.chained_slots-used.ensures.chained in
    (omega arith, (omega arith, (kept-again s.kept (search rules), s.settled'.tabled.few)))

pub new-supplier-requires : goal.new-supplier-requires
new-supplier-requires g c =
    let r = c.of-slots.ensures in
    (omega arith, (omega arith, (c.requires.0, rw (r.0, r.2) (marked-again c.chained_slots-used.ensures.marked (search rules)))))

pub returns : goal.returns
returns g c =
    let s = c.chained_slots-used.ensures.chained in
    let r = c.of-slots.ensures in
    let held = c.new-supplier.ensures.held _ _ (rw (r.0, r.2) s.settled'.tabled) (s.settled'.bads 0) in
    (rw c.new-supplier.ensures.same.0 at c.judge_parts.ensures) _ held
