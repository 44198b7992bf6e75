-- `mark_plain` meets its contract: the record, then the description.
use Rattle.std.proofs.Common.{◌∙◌, sym}
use Rattle.std.proofs.lemmas.Result.{err_from_is_err_and}
use Rattle.items.proofs.AnswerLaws.{description-last, none-taken, record-next}
use Rattle.items.proofs.answer.mark_plain.Goals as goal

pub returns-in_err-accepted-clause-reading : goal.returns-in_err-accepted-clause-reading
returns-in_err-accepted-clause-reading c =
    let p = err_from_is_err_and c.from_residual.result c.from_residual.ensures.1 in
    let e = rw c.in_err-accepted.was at c.read.ensures.refused in
    rw (p.1, p.2) (record-next _ _ _ _ _ none-taken e)

pub returns-clause-reading : goal.returns-clause-reading
returns-clause-reading c =
    let a = rw c.in_ok-accepted.was at c.read.ensures.accepted in
    description-last _ _ _ _ _ none-taken a.0 c.mark_sent.ensures.reading

pub returns-clause-marked : goal.returns-clause-marked
returns-clause-marked c =
    let a = rw c.in_ok-accepted.was at c.read.ensures.accepted in
    rw (a.1, a.2) at c.mark_sent.ensures.marked
