-- `rows_in` meets its contract: refused, or the slots stand in the tables, and the rows that they give are those of the normal form.
use mathlib.Core.Path.{refl, sym}
use native.Mathlib.Omega.{arith}
use Rattle.normal.proofs.NormalWritten.{form_counted, rows-held, rows-stand, standing-few, standing-full, standing-lent}
use Rattle.normal.proofs.RoomLaws.{roomy-again, roomy-refused}
use Rattle.normal.proofs.tables.PassRows.{front-runnable, front-settled, grown_lem}
use Rattle.pairs.proofs.Under.{ruled-under}
use Rattle.std.proofs.lemmas.Result.{err_from_is_err_and}
use Rattle.normal.proofs.output.rows_in.Goals as goal

pub normal_rows-count-requires : goal.normal_rows-count-requires
normal_rows-count-requires c =
    let f = c.fill in
    let s = rw (c.in_ok-used.was, ← c.from.ensures) at f.ensures.4 in
    let S = s.1 in
    let law = (ruled-under _ s.0.list_read).lawful in (
      front-runnable S.slots-settled.tabled,
      omega (arith, f.auto, c.requires.bad-room),
      standing-full law S (roomy-again c.requires (omega (arith, f.auto)) (omega (arith, f.auto)) (omega (arith, f.auto))),
      standing-lent law S (roomy-again c.requires (omega (arith, f.auto)) (omega (arith, f.auto)) (omega (arith, f.auto))),
      grown_lem law (front-settled S.slots-settled),
      standing-few law S (roomy-again c.requires (omega (arith, f.auto)) (omega (arith, f.auto)) (omega (arith, f.auto))),
    )

-- the tables have room for the description
pub returns-in_err-used : goal.returns-in_err-used
returns-in_err-used c =
    let p = err_from_is_err_and c.from_residual.result c.from_residual.ensures.1 in
    rw (p.1, p.2) (sym (roomy-refused c.requires c.args.pairs.now c.fill.ensures.0 c.in_err-used.was), tt, refl)

pub returns : goal.returns
returns c =
    let f = c.fill in
    let s = rw (c.in_ok-used.was, ← c.from.ensures) at f.ensures.4 in
    let law = (ruled-under _ s.0.list_read).lawful in
    let p = c.normal_rows-count.ensures.0 in
    let F = rows-stand law s.1 p refl s.0 (rows-held law s.1 p (roomy-again c.requires (omega (arith, f.auto)) (omega (arith, f.auto)) (omega (arith, f.auto)))) p.size in
    (sym (form_counted F), F, c.normal_rows-count.ensures.1)
