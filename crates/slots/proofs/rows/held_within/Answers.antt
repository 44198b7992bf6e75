-- `held_within` meets its contract: its own tables are cleared and long enough, and the slots of the listed entries then stand in them.
use Prim.Native.Nat.{ℕ}
use borrow.Author.Rules.{rules}
use lib.Dec.{eqb}
use lib.ListN.{length-replicate}
use mathlib.Core.Path.{◌∙◌, ap}
use native.Mathlib.Omega.{arith}
use Rattle.blocks.specs.declared.Schema.TheVariants.{Description}
use Rattle.names.proofs.Legality.AcceptedReadings.{any-input}
use Rattle.slots.proofs.LentAgain.{kept-again, marked-again}
use Rattle.slots.proofs.failing.JudgingLaws.{none-fails}
use Rattle.slots.proofs.filling.FillingLaws.{ready-zeros}
use Rattle.slots.proofs.marking.MarkingLaws.{unmarked-new}
use Rattle.slots.proofs.rows.held_within.Goals as goal

pub chained_rows-used-requires : goal.chained_rows-used-requires
chained_rows-used-requires g c =
    let a = c.requires in
    (omega arith, (a.4, a.6, omega (arith, a.0, length-replicate {A = ℕ} g.row.N 0), ready-zeros _ g.row.N g.row.BUCKETS g.row.CELLS a.0 a.3 a.4 a.5 a.6, unmarked-new _ _ _ c.none-marks.ensures a.8))

pub bounds-work-0 : goal.bounds-work-0
bounds-work-0 g c = omega (arith, c.chained_rows-used.ensures.same.5, length-replicate {A = ℕ} g.row.N 0, c.requires.0)

pub of-slots-requires : goal.of-slots-requires
of-slots-requires g c =
    let s = c.chained_rows-used.ensures.chained in
    (omega arith, (omega arith, (kept-again s.kept (search rules), s.settled'.tabled.few)))

pub new-supplier-requires : goal.new-supplier-requires
new-supplier-requires g c =
    let r = c.of-slots.ensures in
    (omega arith, (omega arith, (c.args.asked.ruled, rw (r.0, r.2) (marked-again c.chained_rows-used.ensures.marked (search rules)))))

pub invariant_of-d : goal.invariant_of-d
invariant_of-d g c = record { read = any-input Description 2 1 _ c.args.asked.read }

pub returns : goal.returns
returns g c =
    let s = c.chained_rows-used.ensures.chained in
    let r = c.of-slots.ensures in
    let held = c.new-supplier.ensures.held _ _ (rw (r.0, r.2) s.settled'.tabled) (s.settled'.bads 0) in
    none-fails _ c.judge.ensures.1 _ c.is_none.ensures
    ∙ ap (λ (n : ℕ). eqb n 0) ((rw c.new-supplier.ensures.same.0 at c.judge.ensures.2) _ held)
