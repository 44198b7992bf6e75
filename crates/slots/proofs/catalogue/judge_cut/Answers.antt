-- `judge_cut` meets its contract: a list that is refused as it is cut, or one that is judged.
use native.Mathlib.Omega.{arith}
use mathlib.Core.Path.{◌∙◌, sym}
use Rattle.base.proofs.Tests.{eqb-eq}
use Rattle.slots.proofs.CutLaws.{cut-few}
use Rattle.slots.proofs.FailingLaws.{accepted-few}
use Rattle.slots.proofs.catalogue.CatalogueLaws.{list-judged, list-refused}
use Rattle.slots.specs.code.Judging.{bytes_read}
use Rattle.std.proofs.lemmas.Result.{err_from_is_err_and}
use Rattle.slots.proofs.catalogue.judge_cut.Goals as goal

pub returns-in_err-count_services : goal.returns-in_err-count_services
returns-in_err-count_services c =
    let p = err_from_is_err_and c.from_residual.result c.from_residual.ensures.1 in
    rw (p.1, p.2) (list-refused c.args.exclusions.pairs.now (bytes_read c.args.names.read) c.args.c.bytes.now c.args.list.now c.args.answers.now (sym c.count_services.ensures ∙ c.in_err-count_services.was))

pub judge_all-requires : goal.judge_all-requires
judge_all-requires c = (
  c.requires,
  cut-few c.args.list.now (sym c.count_services.ensures ∙ c.in_ok-count_services.was),
  omega arith,
  λ z. absurd (z (eqb-eq (sym c.is_empty.ensures ∙ c.if-is_empty.true))),
)

pub returns-then-is_empty : goal.returns-then-is_empty
returns-then-is_empty c = list-judged c.args.exclusions.pairs.now (bytes_read c.args.names.read) c.args.c.bytes.now c.args.list.now c.args.answers.now (sym c.count_services.ensures ∙ c.in_ok-count_services.was) c.judge_all.ensures

pub judge_all-requires-2 : goal.judge_all-requires-2
judge_all-requires-2 c =
    let few = (accepted-few 1 _ c.args.c.read).1 in
    (c.requires, cut-few c.args.list.now (sym c.count_services.ensures ∙ c.in_ok-count_services.was), omega arith, λ z. omega (arith, few))

pub returns : goal.returns
returns c = list-judged c.args.exclusions.pairs.now (bytes_read c.args.names.read) c.args.c.bytes.now c.args.list.now c.args.answers.now (sym c.count_services.ensures ∙ c.in_ok-count_services.was) c.judge_all-2.ensures
