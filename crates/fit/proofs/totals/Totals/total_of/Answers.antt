-- `total_of` meets its contract: the items of the row that is found, or none.
use mathlib.Core.Path.{refl, sym}
use Rattle.fit.proofs.totals.RowLaws.{none-total, row-total}
use Rattle.fit.proofs.totals.Totals.total_of.Goals as goal

pub returns-in-Some : goal.returns-in-Some
returns-in-Some c es n T =
    let a = c.args in
    let f = c.in-Some.ensures in
    row-total a.self.now.rows.now a.self.now.used a.owner a.l.0 f.1 f.0.2 T f.0.0 refl c.items_in.ensures

pub returns-in-None : goal.returns-in-None
returns-in-None c es n T =
    let a = c.args in
    let f = c.in-None.ensures in
    none-total a.self.now.rows.now a.self.now.used a.owner a.l.0 f.1 (sym f.0) T refl
