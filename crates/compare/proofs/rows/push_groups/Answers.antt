-- `push_groups` meets its contract: the group of one tag after another.
use lib.ListN.{length}
use mathlib.Core.Path.{◌∙◌, ap, refl}
use native.Mathlib.Omega.{arith}
use Rattle.compare.proofs.rows.RowLaws.{groups-more}
use Rattle.logic.specs.Laying.{codes, joint_rows}
use Rattle.compare.specs.code.Tags.{group_of}
use Rattle.logic.proofs.TreeRows.FillLaws.{joined-none, noted-length}
use Rattle.compare.proofs.rows.push_groups.Goals as goal

pub loop-x-init : goal.loop-x-init
unfolding joint_rows codes
loop-x-init c = (refl, omega arith, joined-none refl)

pub push_tag-k-requires : goal.push_tag-k-requires
push_tag-k-requires c =
    let l = c.loop-x in
    let t = c.loop-x-test.true in
    let size = l.invariant.2.pushed.size in (
      c.requires.0.name l.x-index t,
      c.requires.0.slot l.x-index t,
      omega (arith, t, size, l.invariant.1, c.requires.1),
      omega (arith, t, l.invariant.0, l.invariant.1, c.requires.1, c.requires.2),
    )

pub loop-x-preserved : goal.loop-x-preserved
unfolding joint_rows codes
loop-x-preserved c =
    let l = c.loop-x in
    let e = c.push_tag-k.ensures in (
      ap length e.notes ∙ noted-length _ _ _ ∙ l.invariant.0,
      omega (arith, e.pushed.total, l.invariant.1),
      groups-more c.args.tags.now (group_of c.args.slots.now.table.now c.args.asked) c.args.owner l.x-index c.loop-x-test.true l.invariant.2 (rw l.invariant.2.pushed.size at e),
    )
