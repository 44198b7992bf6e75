-- `write_result` meets its contract: too many entries, no room, or written.
use Prim.Native.Nat.{◌*◌, ◌≤◌, ℕ}
use lib.ListN.{length, length-map, length-replicate}
use mathlib.Core.Path.{◌∙◌, ◌≡◌, ap, refl, sym}
use native.Mathlib.Omega.{arith}
use Rattle.blocks.specs.Encoding.{blocks_for}
use Rattle.blocks.specs.Entries.{packed}
use Rattle.blocks.specs.Frame.{plain}
use Rattle.narrowest.proofs.answer.ResultLaws.{result-packed}
use Rattle.narrowest.proofs.answer.WayLaws.{room-enough, room-over, room-short, rows-written}
use Rattle.narrowest.proofs.rows.CountLaws.{counted-as}
use Rattle.narrowest.specs.code.Formed.{result_entries}
use Rattle.std.specs.Prelude.{Err, Ok}
use Rattle.narrowest.proofs.answer.write_result.Goals as goal

pub returns-then-count-gt1008 : goal.returns-then-count-gt1008
returns-then-count-gt1008 c =
    let a = c.args in
    let N = result_entries a.pairs.now a.first.rows.now a.second.rows.now in
    let p = counted-as c.result_rows-count.ensures (length-replicate {A = ℕ} 1008 0) (result-packed a.pairs.now a.first.rows.now a.second.rows.now) in
    let r = room-over a.out.now N (omega (arith, p.total, length-map N packed, c.if-count-gt1008.true)) in
    (ap Err c.refusal.ensures ∙ sym r, rw r refl)

pub returns-then-out-bytes_for : goal.returns-then-out-bytes_for
returns-then-out-bytes_for c =
    let a = c.args in
    let N = result_entries a.pairs.now a.first.rows.now a.second.rows.now in
    let p = counted-as c.result_rows-count.ensures (length-replicate {A = ℕ} 1008 0) (result-packed a.pairs.now a.first.rows.now a.second.rows.now) in
    let e : c.result_rows-count.result ≡ length N = omega (arith, p.total, length-map N packed, c.if-count-gt1008.false) in
    let b = c.bytes_for.ensures.0 ∙ ap (λ (n : ℕ). 512 * blocks_for plain n) e in
    let r = room-short a.out.now N (omega (arith, c.if-out-bytes_for.true, b)) in
    (ap Err c.refusal-then-out-bytes_for.ensures ∙ sym r, rw r refl)

pub returns : goal.returns
returns c =
    let a = c.args in
    let N = result_entries a.pairs.now a.first.rows.now a.second.rows.now in
    let p = counted-as c.result_rows-count.ensures (length-replicate {A = ℕ} 1008 0) (result-packed a.pairs.now a.first.rows.now a.second.rows.now) in
    let e : c.result_rows-count.result ≡ length N = omega (arith, p.total, length-map N packed, c.if-count-gt1008.false) in
    let b = c.bytes_for.ensures.0 ∙ ap (λ (n : ℕ). 512 * blocks_for plain n) e in
    let few : length N ≤ 1008 = omega (arith, e, c.if-count-gt1008.false) in
    let room : 512 * blocks_for plain (length N) ≤ length a.out.now = omega (arith, c.if-out-bytes_for.false, b) in
    let r = room-enough a.out.now N few room in
    let w = rows-written a.out.now N p few (c.requires.4 few) room in
    (ap Ok w.0 ∙ sym r, rw r (c.write_entries.ensures.1 ∙ w.1))
