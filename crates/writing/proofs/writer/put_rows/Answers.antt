use Rattle.std.proofs.Common.{ap, arith, ◌∙◌, ◌+◌, ◌*◌}
use Rattle.base.specs.Stores.{stored}
use Rattle.writing.proofs.WritingLaws.{part-le, rows_all, rows_start, rows_step}
use Rattle.writing.proofs.writer.put_rows.Goals as goal

pub loop-j-init : goal.loop-j-init
loop-j-init g c = rows_start g.row.WIDTH c.requires.0 c.args.rows.now _ _

pub loop-j-preserved : goal.loop-j-preserved
loop-j-preserved g c =
    let a = c.args in
    let l = c.loop-j in
    rows_step g.row.WIDTH c.requires.0 a.rows.now a.out.now a.at l.j (omega arith) l.invariant
    (c.put.ensures ∙ ap (stored l.out (a.at + g.row.WIDTH * l.j)) (part-le g.row.WIDTH (c.type_inv.rows l.j).fits c.to_le_bytes.ensures))

pub returns : goal.returns
returns g c = rows_all g.row.WIDTH c.requires.0 _ _ _ c.loop-j-test.false c.loop-j.invariant
