-- `hierarchy` meets its contract: refused, too short, or written.
use mathlib.Core.Path.{◌∙◌, ap, sym}
use native.Mathlib.Omega.{arith}
use Rattle.hierarchy.proofs.AnswerLaws.{answer-ranked, answer-refused, answer-short, size-few, table-flat, table-taken}
use Rattle.hierarchy.specs.Answer.{hierarchy_size}
use Rattle.std.specs.Prelude.{Ok}
use Rattle.std.proofs.lemmas.Result.{err_from_is_err_and}
use Rattle.hierarchy.proofs.answer.hierarchy.Goals as goal

pub returns-in_err-count : goal.returns-in_err-count
returns-in_err-count c =
    let p = err_from_is_err_and c.from_residual.result c.from_residual.ensures.1 in
    rw (p.1, p.2) (answer-refused c.args.pairs.now c.args.list.now c.args.out.now (sym c.contained_table.ensures.0 ∙ c.in_err-count.was))

pub returns-then-out-size : goal.returns-then-out-size
returns-then-out-size c =
    answer-short c.args.pairs.now c.args.list.now c.args.out.now (sym c.contained_table.ensures.0 ∙ c.in_ok-count.was) (omega (arith, c.if-out-size.true, ap hierarchy_size c.from-n.ensures))

pub write_ranks-requires : goal.write_ranks-requires
write_ranks-requires c =
    let T = table-taken _ _ (sym c.contained_table.ensures.0 ∙ c.in_ok-count.was) in
    let e = sym c.contained_table.ensures.0 ∙ c.in_ok-count.was ∙ ap Ok (sym c.from-n.ensures) in
    (omega (arith, T.few, c.from-n.ensures), c.if-out-size.false, table-flat _ _ e c.contained_table.ensures.1)

pub overflow_cast-result : goal.overflow_cast-result
overflow_cast-result c =
    omega (arith, size-few c.args.pairs.now c.args.list.now (sym c.contained_table.ensures.0 ∙ c.in_ok-count.was), ap hierarchy_size c.from-n.ensures)

pub returns : goal.returns
returns c =
    let e = sym c.contained_table.ensures.0 ∙ c.in_ok-count.was ∙ ap Ok (sym c.from-n.ensures) in
    answer-ranked c.args.pairs.now c.args.list.now c.args.out.now e c.if-out-size.false c.contained_table.ensures.1 c.write_ranks.ensures
