-- `asked_property` meets its contract, by where the target stands and by the entry's kind.
use native.Mathlib.Omega.{arith}
use Rattle.compare.proofs.asked.TargetLaws.{property-before, property-lacked, property-none}
use Rattle.meaning.specs.Description.{atom_of}
use Rattle.compare.proofs.path.Path.asked_property.Goals.{else-target-depth-via-then-target-depth+else-e-eq-LACKS, else-target-depth-via-else-target-depth}
use Rattle.compare.proofs.path.Path.asked_property.Goals as goal

pub returns-then-e-eq-LACKS : goal.returns-then-e-eq-LACKS
returns-then-e-eq-LACKS c =
    let k = c.property.type_inv in
    let d = c.depth.ensures in
    (omega (arith, k), property-lacked _ c.args.self.now.entry (omega (arith, d, c.if-target-depth.true)) c.requires c.if-e-eq-LACKS.true c.property.ensures)

pub returns-else-target-depth : goal.returns-else-target-depth
returns-else-target-depth c =
    let e = c.args.self.now.entry in
    let d = c.depth.ensures in
    elim c.else-target-depth.branch [
      | else-target-depth-via-then-target-depth+else-e-eq-LACKS w ↦ (tt, property-none _ e (omega (arith, d, w.if-target-depth.true)) c.requires w.if-e-eq-LACKS.false)
      | else-target-depth-via-else-target-depth w ↦ (tt, property-before _ (atom_of e) (omega (arith, d, w.if-target-depth.false, c.requires)))
    ]
