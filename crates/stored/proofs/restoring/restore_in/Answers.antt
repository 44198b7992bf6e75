-- `restore_in` meets its contract: refused by an entry, too short, or written.
use Rattle.std.proofs.Common.{◌∙◌, ℕ, refl, arith}
use lib.ListN.{length-map, length-replicate}
use Rattle.std.proofs.lemmas.Result.{err_from_is_err_and}
use Rattle.blocks.specs.Entries.{packed}
use Rattle.stored.proofs.AnswerLaws.{blocks-there, entry-refuses, from-refused, from-short, from-written, length-restored, none-refuses, taken-stored}
use Rattle.stored.specs.Stored.{stored_entries}
use Rattle.stored.specs.Walking.{restored}
use Rattle.stored.proofs.restoring.restore_in.Goals as goal

pub restore-requires : goal.restore-requires
restore-requires g c =
    let B = blocks-there c.args.s.now refl c.requires.2 in
    let t = c.from-total.ensures in
    (t ∙ B.0, omega (arith, t, B.1), rw t B.2, omega (arith, t, c.requires.1, length-replicate {A = ℕ} g.row.N 0))

pub returns-in_err-restore : goal.returns-in_err-restore
returns-in_err-restore g c =
    let s = c.args.s.now in
    let p = err_from_is_err_and c.from_residual.result c.from_residual.ensures.1 in
    let t = c.from-total.ensures ∙ (blocks-there s refl c.requires.2).0 in
    rw (p.1, p.2)
    (from-refused s c.args.out.now (entry-refuses s refl c.requires.2 (rw t at c.restore.ensures.refused) c.in_err-restore.was))

pub returns-then-write_entries-eq0 : goal.returns-then-write_entries-eq0
returns-then-write_entries-eq0 g c =
    let s = c.args.s.now in
    let B = blocks-there s refl c.requires.2 in
    let t = c.from-total.ensures ∙ B.0 in
    let r = none-refuses s refl c.requires.2 (rw t at c.restore.ensures.refused) c.in_ok-restore.was in
    let X = restored (stored_entries s) in
    let long = length-replicate {A = ℕ} g.row.N 0 in
    let T = taken-stored _ _ c.from-total.result c.in_ok-restore.ensures.given (omega (arith, t, length-map X packed, length-restored (stored_entries s))) (omega (arith, long, t, c.from-total.ensures, c.requires.1, length-map X packed, length-restored (stored_entries s))) in
    from-short s c.args.out.now c.restore.new.rows c.from-total.result _ r t (omega (arith, c.from-total.ensures, B.1)) (omega (arith, c.from-total.ensures, c.requires.1, T.1, long)) c.write_entries.ensures.0 c.write_entries.ensures.1
    c.if-write_entries-eq0.true

pub returns : goal.returns
returns g c =
    let s = c.args.s.now in
    let B = blocks-there s refl c.requires.2 in
    let t = c.from-total.ensures ∙ B.0 in
    let r = none-refuses s refl c.requires.2 (rw t at c.restore.ensures.refused) c.in_ok-restore.was in
    let X = restored (stored_entries s) in
    let long = length-replicate {A = ℕ} g.row.N 0 in
    let T = taken-stored _ _ c.from-total.result c.in_ok-restore.ensures.given (omega (arith, t, length-map X packed, length-restored (stored_entries s))) (omega (arith, long, t, c.from-total.ensures, c.requires.1, length-map X packed, length-restored (stored_entries s))) in
    let w = from-written s c.args.out.now c.restore.new.rows c.from-total.result _ r t (omega (arith, c.from-total.ensures, B.1)) (omega (arith, c.from-total.ensures, c.requires.1, T.1, long)) c.write_entries.ensures.0 c.write_entries.ensures.1
    (record { small = λ k. omega (arith, c.type_inv.s k) }) T.0 c.if-write_entries-eq0.false in
    rw c.from-total.ensures at w
