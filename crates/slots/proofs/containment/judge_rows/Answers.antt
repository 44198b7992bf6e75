use mathlib.Core.Path.{◌∙◌, ap, sym}
use native.Mathlib.Omega.{arith}
use Rattle.base.proofs.RowsLaws.{rows-all, rows-more}
use Rattle.base.specs.Stores.{stored}
use Rattle.lists.specs.Parts.{parts_of}
use Rattle.pairs.specs.Pairs.{under}
use Rattle.slots.proofs.ContainmentLaws.{row-of, rows-many}
use Rattle.slots.proofs.containment.judge_rows.Goals as goal

pub loop-i-preserved : goal.loop-i-preserved
loop-i-preserved c =
    let R = c.args.services.read in
    let b = under c.args.exclusions.pairs.now in
    let all = parts_of c.args.services.list.now in
    let many = rows-many b all in
    rows-more _ c.args.table.now c.loop-i.table c.loop-i.i c.loop-i.invariant (omega (arith, c.loop-i-test.true, R.all, many))
    (c.slot_row.ensures ∙ ap (stored c.loop-i.table _) (sym (row-of b all c.loop-i.i (omega (arith, c.loop-i-test.true, R.all)))))

pub returns : goal.returns
returns c =
    let many = rows-many (under c.args.exclusions.pairs.now) (parts_of c.args.services.list.now) in
    rows-all _ c.args.table.now c.loop-i.table c.loop-i.i c.loop-i.invariant (omega (arith, c.loop-i-test.false, c.args.services.read.all, many))
