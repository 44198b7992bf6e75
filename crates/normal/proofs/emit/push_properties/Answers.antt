-- `push_properties` meets its contract: the rows of both kinds, from the tags of the properties.
use native.Mathlib.Omega.{arith}
use Rattle.logic.specs.Place.{has, lacks}
use Rattle.normal.proofs.emit.ClassLaws.{kind-run, properties-pushed, property-length}
use Rattle.normal.proofs.emit.PushLaws.{pushed-total}
use Rattle.normal.proofs.ordering.RunLaws.{run-tagged}
use Rattle.normal.specs.code.Emitted.{cells_of, kind_rows}
use Rattle.normal.proofs.emit.push_properties.Goals as goal

pub push_kind-k-requires : goal.push_kind-k-requires
push_kind-k-requires c =
    let s = c.args.slots.now in
    let O = c.property_run-n.ensures in
    let o = c.args.owner in
    (run-tagged s.runnable O, rw (kind-run s.table.now c.args.v O has o (omega arith)) (omega (arith, c.requires.2, property-length o (cells_of s c.args.v))))

pub push_kind-requires : goal.push_kind-requires
push_kind-requires c =
    let s = c.args.slots.now in
    let O = c.property_run-n.ensures in
    let o = c.args.owner in
    let q = cells_of s c.args.v in
    let e = rw (kind-run s.table.now c.args.v O has o (omega arith)) at c.push_kind-k.ensures in
    (run-tagged s.runnable O, rw (kind-run s.table.now c.args.v O lacks o (omega arith)) (omega (arith, c.requires.2, property-length o q, e.size, pushed-total (kind_rows has o q) e)))

pub returns : goal.returns
returns c =
    let s = c.args.slots.now in
    let O = c.property_run-n.ensures in
    let o = c.args.owner in
    properties-pushed o (cells_of s c.args.v) (rw (kind-run s.table.now c.args.v O has o (omega arith)) at c.push_kind-k.ensures) (rw (kind-run s.table.now c.args.v O lacks o (omega arith)) at c.push_kind.ensures)
