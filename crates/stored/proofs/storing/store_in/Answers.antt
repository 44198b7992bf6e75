-- `store_in` meets its contract: refused, too short, or written.
use Rattle.std.proofs.Common.{◌∙◌, ℕ, sym, arith}
use lib.ListN.{length-replicate}
use Rattle.std.proofs.lemmas.Result.{err_from_is_err_and}
use Rattle.blocks.proofs.Format.WordBytes.{Bytes}
use Rattle.blocks.specs.Entries.{entries_of}
use Rattle.blocks.specs.Reading.{reading_of}
use Rattle.blocks.specs.declared.Schema.TheVariants.{Description}
use Rattle.places.proofs.ReadLaws.{room-fits}
use Rattle.stored.proofs.AnswerLaws.{taken-stored}
use Rattle.stored.proofs.ToLaws.{to-refused, to-short, to-written}
use Rattle.stored.proofs.TurnLaws.{deep-top, length-rows, walk-rows}
use Rattle.stored.proofs.storing.store_in.Goals as goal

pub returns-in_err-places : goal.returns-in_err-places
returns-in_err-places g c =
    let p = err_from_is_err_and c.from_residual.result c.from_residual.ensures.1 in
    rw (p.1, p.2) (to-refused c.args.d.now c.args.out.now (sym c.requires.1 ∙ c.in_err-places.ensures.refused))

pub store_place-total-requires : goal.store_place-total-requires
store_place-total-requires g c =
    let P = c.in_ok-places.places in
    let es = entries_of P.bytes.now in
    let size = (room-fits g.row.N (reading_of Description 1 c.args.d.now) c.in_ok-places.ensures.accepted.0).1 in
    (omega arith, deep-top es, omega (arith, length-rows es P.legal, P.counted, size, length-replicate {A = ℕ} g.row.N 0))

pub returns-then-write_stored-eq0 : goal.returns-then-write_stored-eq0
returns-then-write_stored-eq0 g c =
    let P = c.in_ok-places.places in
    let es = entries_of P.bytes.now in
    let A = c.in_ok-places.ensures.accepted in
    let r = rw (← A.1) at (sym c.requires.1 ∙ A.0) in
    let size = (room-fits g.row.N (reading_of Description 1 c.args.d.now) A.0).1 in
    let all = length-rows es P.legal in
    let n = c.store_place-total.ensures.0 in
    let long = length-replicate {A = ℕ} g.row.N 0 in
    let T = taken-stored _ _ c.store_place-total.result c.store_place-total.ensures.1 (omega (arith, n)) (omega (arith, long, all, P.counted, size)) in
    rw (← A.1)
    (to-short P.bytes.now c.args.out.now c.store_place-total.new.rows c.store_place-total.result P.total r (omega (arith, n, all)) (omega (arith, n, all, P.counted, P.few))
    (omega (arith, n, all, P.counted, size, T.1, long)) c.write_stored.ensures.0 c.write_stored.ensures.1 c.if-write_stored-eq0.true)

pub returns : goal.returns
returns g c =
    let P = c.in_ok-places.places in
    let es = entries_of P.bytes.now in
    let A = c.in_ok-places.ensures.accepted in
    let r = rw (← A.1) at (sym c.requires.1 ∙ A.0) in
    let size = (room-fits g.row.N (reading_of Description 1 c.args.d.now) A.0).1 in
    let all = length-rows es P.legal in
    let n = c.store_place-total.ensures.0 in
    let long = length-replicate {A = ℕ} g.row.N 0 in
    let bytes : Bytes c.args.d.now = record { small = λ k. omega (arith, c.type_inv.d k) } in
    let T = taken-stored _ _ c.store_place-total.result c.store_place-total.ensures.1 (omega (arith, n)) (omega (arith, long, all, P.counted, size)) in
    rw (← A.1)
    (to-written P.bytes.now c.args.out.now c.store_place-total.new.rows c.store_place-total.result P.total r (omega (arith, n, all)) (omega (arith, n, all, P.counted, P.few))
    (omega (arith, n, all, P.counted, size, T.1, long)) c.write_stored.ensures.0 c.write_stored.ensures.1 (rw (← A.1) at bytes) P.legal (T.0 ∙ walk-rows es) c.if-write_stored-eq0.false)
