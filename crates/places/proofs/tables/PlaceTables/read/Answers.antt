-- `read` meets its contract.
use Rattle.std.proofs.Common.{◌∙◌, sym, arith}
use Rattle.places.proofs.ReadLaws.{accepted}
use Rattle.places.proofs.tables.PlaceTables.read.Goals as goal

pub fill-requires : goal.fill-requires
fill-requires g c =
    let a = accepted _ _ (sym c.read.ensures ∙ c.in_ok-read.was) in
    rw c.from-total.ensures (a.counted, a.few, a.whole, a.legal, omega (arith, c.if-total.false, c.from-total.ensures), omega (arith, c.if-total.false, c.from-total.ensures), omega (arith, c.if-total.false, c.from-total.ensures))
