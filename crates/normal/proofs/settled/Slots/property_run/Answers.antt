-- `property_run` meets its contract: the tags are gathered, and the part that they fill is sorted.
use lib.Seq.{length-take-le}
use mathlib.Core.Path.{sym}
use native.Mathlib.Omega.{arith}
use Rattle.normal.proofs.ordering.RunLaws.{gathered-fits, run-sorted}
use Rattle.normal.proofs.settled.Slots.property_run.Goals as goal

pub slice_bounds-sort-end : goal.slice_bounds-sort-end
slice_bounds-sort-end c =
    let g = c.gather_properties-n.ensures in
    let s = c.args.self.now in
    gathered-fits s.runnable s.chained (omega (arith, c.requires.0)) c.args.order.now c.requires.1 g.0 g.1

pub slice_bounds-sort-end-2 : goal.slice_bounds-sort-end-2
slice_bounds-sort-end-2 c =
    let g = c.gather_properties-n.ensures in
    let s = c.args.self.now in
    sym (length-take-le _ _ (gathered-fits s.runnable s.chained (omega (arith, c.requires.0)) c.args.order.now c.requires.1 g.0 g.1))

pub returns : goal.returns
returns c =
    let g = c.gather_properties-n.ensures in
    let s = c.args.self.now in
    run-sorted s.runnable s.chained (omega (arith, c.requires.0)) c.args.order.now c.requires.1 g.0 g.1 c.sort.ensures
