-- `missing` meets its contract: refused, too much, too short, or answered.
use Prim.Native.Nat.{◌+◌, ◌<◌, ◌≤◌}
use lib.ListN.{length}
use mathlib.Core.Path.{◌∙◌, ◌≡◌, refl, sym}
use native.Mathlib.Omega.{arith}
use Rattle.blocks.proofs.RoundTrip.Accepting.{none-of-accepted}
use Rattle.blocks.specs.Entries.{entries_of}
use Rattle.blocks.specs.declared.Schema.TheVariants.{Description}
use Rattle.missing.proofs.AnswerLaws.{both-answers, both-first, both-long, both-narrow, both-pairs, both-second, missing-given, missing-refused}
use Rattle.missing.proofs.RoomLaws.{few-both}
use Rattle.narrow_listed.proofs.AcceptedLegal.{legal-read}
use Rattle.std.proofs.lemmas.Result.{err_from_is_err_and}
use Rattle.missing.proofs.answer.missing.Goals as goal

pub returns-in_err-read_pairs : goal.returns-in_err-read_pairs
returns-in_err-read_pairs c =
    let a = c.args in
    let p = err_from_is_err_and c.from_residual.result c.from_residual.ensures.1 in
    rw (p.1, p.2) (missing-refused a.pairs.now a.c.now a.d.now a.out.now (both-pairs a.pairs.now a.c.now a.d.now a.out.now _ (sym c.read_pairs.ensures ∙ c.in_err-read_pairs.was)))

pub returns-in_err-first : goal.returns-in_err-first
returns-in_err-first c =
    let a = c.args in
    let p = err_from_is_err_and c.from_residual-in_err-first.result c.from_residual-in_err-first.ensures.1 in
    rw (p.1, p.2)
    (missing-refused a.pairs.now a.c.now a.d.now a.out.now
    (both-first a.pairs.now a.c.now a.d.now a.out.now _ (sym c.read_pairs.ensures ∙ c.in_ok-read_pairs.was) (sym c.read.ensures ∙ c.in_err-first.was)))

pub returns-in_err-second : goal.returns-in_err-second
returns-in_err-second c =
    let a = c.args in
    let p = err_from_is_err_and c.from_residual-in_err-second.result c.from_residual-in_err-second.ensures.1 in
    rw (p.1, p.2)
    (missing-refused a.pairs.now a.c.now a.d.now a.out.now
    (both-second a.pairs.now a.c.now a.d.now a.out.now _ (sym c.read_pairs.ensures ∙ c.in_ok-read_pairs.was) (sym c.read.ensures ∙ c.in_ok-first.was)
    (sym c.read-2.ensures ∙ c.in_err-second.was)))

pub returns-then-c-d-gt8192 : goal.returns-then-c-d-gt8192
returns-then-c-d-gt8192 c =
    let a = c.args in
    let h : 8192 < length a.c.now + length a.d.now = omega (arith, c.if-c-d-gt8192.true) in
    missing-refused a.pairs.now a.c.now a.d.now a.out.now
    (both-long a.pairs.now a.c.now a.d.now a.out.now _ (sym c.read_pairs.ensures ∙ c.in_ok-read_pairs.was) (sym c.read.ensures ∙ c.in_ok-first.was) (sym c.read-2.ensures ∙ c.in_ok-second.was) h)

pub returns-then-out-total : goal.returns-then-out-total
returns-then-out-total c =
    let a = c.args in
    let q = sym c.read-2.ensures ∙ c.in_ok-second.was in
    let few : length a.c.now + length a.d.now ≤ 8192 = omega (arith, c.if-c-d-gt8192.false) in
    let h : length a.out.now < length (entries_of a.d.now) = omega (arith, c.if-out-total.true, c.from-total.ensures, (none-of-accepted Description 2 a.d.now q).1) in
    missing-refused a.pairs.now a.c.now a.d.now a.out.now
    (both-narrow a.pairs.now a.c.now a.d.now a.out.now _ (sym c.read_pairs.ensures ∙ c.in_ok-read_pairs.was) (sym c.read.ensures ∙ c.in_ok-first.was) q few h)

pub invariant_of-stays : goal.invariant_of-stays
invariant_of-stays c =
    let r = sym c.read.ensures ∙ c.in_ok-first.was in
    record { counted = c.from.ensures ∙ (none-of-accepted Description 1 c.args.c.now r).1; legal = legal-read 1 c.args.c.now r }

pub invariant_of-tried : goal.invariant_of-tried
invariant_of-tried c =
    let q = sym c.read-2.ensures ∙ c.in_ok-second.was in
    record { counted = c.from-total.ensures ∙ (none-of-accepted Description 2 c.args.d.now q).1; legal = legal-read 2 c.args.d.now q }

pub mark_lacking-requires : goal.mark_lacking-requires
mark_lacking-requires c =
    let a = c.args in
    let p = sym c.read_pairs.ensures ∙ c.in_ok-read_pairs.was in
    let r = sym c.read.ensures ∙ c.in_ok-first.was in
    let q = sym c.read-2.ensures ∙ c.in_ok-second.was in
    let few : length a.c.now + length a.d.now ≤ 8192 = omega (arith, c.if-c-d-gt8192.false) in
    let n = c.from.ensures ∙ (none-of-accepted Description 1 a.c.now r).1 in
    let m = c.from-total.ensures ∙ (none-of-accepted Description 2 a.d.now q).1 in
    (rw p refl, rw r refl, rw q refl, omega (arith, n, m, few-both a.c.now a.d.now r q few), omega (arith, c.if-out-total.false))

pub returns : goal.returns
returns c =
    let a = c.args in
    let q = sym c.read-2.ensures ∙ c.in_ok-second.was in
    let few : length a.c.now + length a.d.now ≤ 8192 = omega (arith, c.if-c-d-gt8192.false) in
    let room : length (entries_of a.d.now) ≤ length a.out.now = omega (arith, c.if-out-total.false, c.from-total.ensures, (none-of-accepted Description 2 a.d.now q).1) in
    let l = missing-given a.pairs.now a.c.now a.d.now a.out.now
    (both-answers a.pairs.now a.c.now a.d.now a.out.now _ (sym c.read_pairs.ensures ∙ c.in_ok-read_pairs.was) (sym c.read.ensures ∙ c.in_ok-first.was) q few room) in
    (c.mark_lacking.ensures.0 ∙ l.0, c.mark_lacking.ensures.1 ∙ l.1)
