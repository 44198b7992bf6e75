use Rattle.std.proofs.Common.{◌∙◌, ap, length, arith}
use Rattle.slots.proofs.catalogue.CatalogueLaws.{passing-all, passing-more, passing-refused, passing-start}
use Rattle.std.proofs.lemmas.Result.{err_from_is_err_and}
use Rattle.slots.specs.code.Judging.{bytes_read}
use Rattle.slots.proofs.catalogue.judge_parts.Goals as goal

pub loop-part-init : goal.loop-part-init
loop-part-init c =
    let e = c.into_iter-part-iterator.ensures.into_iter_gives ∙ c.of-part-items.ensures in
    (omega (arith, ap length e), λ s H. passing-start c.args.supplier.marked.exclusions.pairs.now (bytes_read c.args.names.read) s c.args.list.now c.args.answers.now e)

pub loop-part-preserved : goal.loop-part-preserved
loop-part-preserved c =
    let i = c.loop-part.invariant in
    let j = c.judge_service in
    let e = c.in-Some.ensures.steps in
    (omega (arith, ap length e, i.0), λ s H. passing-more (i.1 s H) e (j.ensures s H) c.in_ok-contained.was c.from.ensures)

pub returns : goal.returns
returns c =
    let i = c.loop-part.invariant in
    let none = c.in-None.ensures.steps.0 in
    λ s H. passing-all (i.1 s H) none (omega (arith, ap length none, i.0))

pub returns-in_err-contained : goal.returns-in_err-contained
returns-in_err-contained c =
    let p = err_from_is_err_and c.from_residual.result c.from_residual.ensures.1 in
    rw (p.1, p.2) (λ s H. passing-refused (c.loop-part.invariant.1 s H) c.in-Some.ensures.steps (c.judge_service.ensures s H) c.in_err-contained.was)
