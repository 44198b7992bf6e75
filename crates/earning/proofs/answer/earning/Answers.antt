-- `earning` meets its contract: refused, or left to leaving out beside nothing.
use lib.ListN.{length}
use mathlib.Core.Path.{◌∙◌, ap, sym}
use native.Mathlib.Omega.{arith}
use Rattle.blocks.proofs.RoundTrip.Accepting.{none-of-accepted}
use Rattle.blocks.specs.declared.Schema.TheVariants.{Description}
use Rattle.earning.proofs.AnswerLaws.{asked-first, asked-pairs, asked-second, earning-left, earning-refused}
use Rattle.earning.proofs.AttemptLaws.{none-entered, none-legal}
use Rattle.narrow_listed.proofs.AcceptedLegal.{few-read, legal-read}
use Rattle.std.proofs.lemmas.Result.{err_from_is_err_and}
use Rattle.std.specs.Prelude.{is_ok}
use Rattle.earning.proofs.answer.earning.Goals as goal

pub returns-in_err-read_pairs : goal.returns-in_err-read_pairs
returns-in_err-read_pairs c =
    let a = c.args in
    let p = err_from_is_err_and c.from_residual.result c.from_residual.ensures.1 in
    rw (p.1, p.2) (earning-refused a.pairs.now a.c.now a.d.now a.out.now (asked-pairs a.pairs.now a.c.now a.d.now a.c.now a.out.now _ (sym c.read_pairs.ensures ∙ c.in_err-read_pairs.was)))

pub returns-in_err-total : goal.returns-in_err-total
returns-in_err-total c =
    let a = c.args in
    let p = err_from_is_err_and c.from_residual-in_err-total.result c.from_residual-in_err-total.ensures.1 in
    rw (p.1, p.2)
    (earning-refused a.pairs.now a.c.now a.d.now a.out.now
    (asked-first a.pairs.now a.c.now a.d.now a.c.now a.out.now _ (sym c.read_pairs.ensures ∙ c.in_ok-read_pairs.was) (sym c.read.ensures ∙ c.in_err-total.was)))

pub returns-in_err-asked : goal.returns-in_err-asked
returns-in_err-asked c =
    let a = c.args in
    let p = err_from_is_err_and c.from_residual-in_err-asked.result c.from_residual-in_err-asked.ensures.1 in
    rw (p.1, p.2)
    (earning-refused a.pairs.now a.c.now a.d.now a.out.now
    (asked-second a.pairs.now a.c.now a.d.now a.c.now a.out.now _ (sym c.read_pairs.ensures ∙ c.in_ok-read_pairs.was) (sym c.read.ensures ∙ c.in_ok-total.was)
    (sym c.read-2.ensures ∙ c.in_err-asked.was)))

pub invariant_of-stays : goal.invariant_of-stays
invariant_of-stays c = record { counted = ap length (sym none-entered); legal = none-legal }

pub invariant_of-tried : goal.invariant_of-tried
invariant_of-tried c =
    let r = sym c.read.ensures ∙ c.in_ok-total.was in
    record { counted = c.from.ensures ∙ (none-of-accepted Description 1 c.args.c.now r).1; legal = legal-read 1 c.args.c.now r }

pub invariant_of-service : goal.invariant_of-service
invariant_of-service c =
    let p = sym c.read_pairs.ensures ∙ c.in_ok-read_pairs.was in
    let r = sym c.read-2.ensures ∙ c.in_ok-asked.was in
    record { listed = ap is_ok p; read = ap is_ok r; counted = c.from-2.ensures ∙ (none-of-accepted Description 2 c.args.d.now r).1 }

pub invariant_of-attempt : goal.invariant_of-attempt
invariant_of-attempt c =
    let r = sym c.read.ensures ∙ c.in_ok-total.was in
    record { few = omega (arith, c.from.ensures, (none-of-accepted Description 1 c.args.c.now r).1, few-read 1 c.args.c.now r) }

pub returns : goal.returns
returns c =
    let a = c.args in
    let p = sym c.read_pairs.ensures ∙ c.in_ok-read_pairs.was in
    let l = earning-left a.pairs.now a.c.now a.d.now a.out.now p (sym c.read.ensures ∙ c.in_ok-total.was) (sym c.read-2.ensures ∙ c.in_ok-asked.was) in
    (c.mark_left.ensures.0 ∙ l.0, c.mark_left.ensures.1 ∙ l.1)
