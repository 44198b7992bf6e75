-- `read_named` meets its contract: what its blocks refuse is refused so, and else its entries decide.
use Rattle.names.proofs.Legality.NamedReadings.{named-refused}
use Rattle.reading.proofs.BlocksRead.{blocks-accepted, blocks-refused, blocks-whole}
use native.Mathlib.Omega.{arith}
use Rattle.std.proofs.lemmas.Result.{err_from_is_err_and}
use Rattle.unfolding.proofs.dictionary.read_named.Goals as goal

pub take_entries-requires : goal.take_entries-requires
take_entries-requires c =
    let e = c.read_blocks.ensures in
    let q = c.in_ok-total.was in
    let w = blocks-whole _ _ _ e q in
    (w.0, omega (arith, w.1), w.2, blocks-accepted _ _ _ e q)

pub returns-in_err-total : goal.returns-in_err-total
returns-in_err-total c K k =
    let p = err_from_is_err_and c.from_residual.result c.from_residual.ensures.1 in
    let r = c.in_err-total.field-0.0 in
    rw (p.1, p.2) (named-refused K _ _ (rw k.many at (blocks-refused _ _ _ c.read_blocks.ensures {k = r.cause} {j = r.input} {p = r.place} c.in_err-total.was)))
