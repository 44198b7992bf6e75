-- `push_properties` meets its contract: the property of one tag after another.
use mathlib.Core.Path.{refl}
use native.Mathlib.Omega.{arith}
use Rattle.compare.proofs.rows.RowLaws.{properties-more}
use Rattle.logic.specs.Laying.{leaf_rows}
use Rattle.logic.proofs.TreeRows.FillLaws.{filled_none}
use Rattle.compare.proofs.rows.push_properties.Goals as goal

pub loop-x-init : goal.loop-x-init
unfolding leaf_rows
loop-x-init c = (omega arith, filled_none refl)

pub loop-x-preserved : goal.loop-x-preserved
loop-x-preserved c =
    let l = c.loop-x in
    let e = rw (c.property_entry.ensures, l.invariant.1.size) at c.push_entry-k.ensures in (
      omega (arith, e.total, l.invariant.0),
      properties-more c.args.tags.now c.args.owner l.x-index c.loop-x-test.true c.tag_name.ensures l.invariant.1 e,
    )
