use lib.ListN.{get_or, length}
use mathlib.Core.Path.{◌∙◌, ap, sym}
use native.Mathlib.Omega.{arith}
use Rattle.base.proofs.StoresLaws.{length-stored, stored-none}
use Rattle.base.specs.Stores.{stored}
use Rattle.hierarchy.specs.code.Words.{rows_in}
use Rattle.hierarchy.proofs.RowLaws.{joined-less, joined-more, joined-none, row-in, row-long, rows-many}
use Rattle.hierarchy.proofs.table.put_rows.Goals as goal
use Rattle.hierarchy.proofs.table.put_rows.Goals.{In-loop-i}

pub put_row-requires : goal.put_row-requires
put_row-requires c =
    let t = c.args.rows.now in
    let n = c.args.n in
    let i = c.loop-i.i in
    let A = c.loop-i.invariant in
    let h = c.loop-i-test.true in
    let less = joined-less (rows_in t n) i (omega (arith, h, rows-many t n)) in
    (c.requires.0, omega (arith, A.0, A.1, less, ap length (row-in t n i h), row-long n (get_or t i 0), c.requires.1))

pub loop-i-preserved : goal.loop-i-preserved
loop-i-preserved c =
    let t = c.args.rows.now in
    let n = c.args.n in
    let i = c.loop-i.i in
    let A = c.loop-i.invariant in
    let h = c.loop-i-test.true in
    let row = row-in t n i h in
    let long = ap length row ∙ row-long n (get_or t i 0) in
    let less = joined-less (rows_in t n) i (omega (arith, h, rows-many t n)) in
    let w = c.put_row.ensures ∙ ap (stored c.loop-i.out c.loop-i.behind) (sym row) in
    let more = joined-more (rows_in t n) i c.loop-i.out c.loop-i.behind (omega (arith, h, rows-many t n)) A.2 w in
    (ap length c.put_row.ensures ∙ length-stored _ _ _ ∙ A.0, omega (arith, A.1, less, long), rw long at more)

pub returns : goal.returns
returns c =
    let t = c.args.rows.now in
    let n = c.args.n in
    let A = c.loop-i.invariant in
    let none = joined-none (rows_in t n) c.loop-i.i (omega (arith, c.loop-i-test.false, rows-many t n)) in
    (stored-none _ _ ∙ (rw none at A.2), omega (arith, A.1, ap length none))
