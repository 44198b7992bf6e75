-- `write_ranks` meets its contract: the three parts are written one behind the other.
use Rattle.std.proofs.Common.{ap, length, arith}
use Rattle.base.proofs.StoresLaws.{length-stored}
use Rattle.blocks.specs.Encoding.{joined}
use Rattle.hierarchy.proofs.AnswerLaws.{ranks-written}
use Rattle.hierarchy.proofs.RowLaws.{rows-long}
use Rattle.hierarchy.specs.code.Words.{cell, rows_in}
use Rattle.meaning.specs.Hierarchy.{strict}
use Rattle.hierarchy.proofs.answer.write_ranks.Goals as goal

pub put_rows-behind_table-requires : goal.put_rows-behind_table-requires
put_rows-behind_table-requires c = (c.requires.0, omega (arith, c.requires.1, rows-long c.gather_rows.new.up c.args.n))

pub put_rows-behind_direct-requires : goal.put_rows-behind_direct-requires
put_rows-behind_direct-requires c =
    let n = c.args.n in
    let up = c.gather_rows.new.up in
    let p = c.put_rows-behind_table.ensures in
    (c.requires.0, omega (arith, c.requires.1, p.1, ap length p.0, length-stored c.args.out.now (joined (rows_in up n)) 0, rows-long up n, rows-long c.direct_rows.new.direct n))

pub put_classes-requires : goal.put_classes-requires
put_classes-requires c =
    let n = c.args.n in
    let up = c.gather_rows.new.up in
    let p = c.put_rows-behind_table.ensures in
    let q = c.put_rows-behind_direct.ensures in
    (c.requires.0, omega (arith, c.requires.1, p.1, q.1, ap length p.0, ap length q.0, length-stored c.args.out.now (joined (rows_in up n)) 0, length-stored c.put_rows-behind_table.new.out (joined (rows_in c.direct_rows.new.direct n)) c.put_rows-behind_table.result, rows-long up n, rows-long c.direct_rows.new.direct n))

pub returns : goal.returns
returns c =
    let t = cell c.args.table.now in
    let U = c.gather_rows.ensures.0 in
    let D = c.gather_rows.ensures.1 in
    let p = c.put_rows-behind_table.ensures in
    let q = c.put_rows-behind_direct.ensures in
    ranks-written t c.args.n c.args.out.now U (c.direct_rows.ensures (strict t) (c.strict_rows.ensures t U D)) p.0 p.1 q.0 q.1 (c.put_classes.ensures t U D)
