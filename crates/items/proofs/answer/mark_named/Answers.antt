-- `mark_named` meets its contract: the list, the dictionary, the record, and then the description.
use Rattle.std.proofs.Common.{◌∙◌, ap, length, List, ℕ, sym, arith}
use lib.ListN.{length-replicate}
use Rattle.std.proofs.lemmas.Result.{err_from_is_err_and}
use Rattle.items.proofs.AnswerLaws.{description-last, dictionary-next, pairs-first, record-next}
use Rattle.items.proofs.answer.mark_named.Goals as goal

pub returns-in_err-read_pairs-clause-reading : goal.returns-in_err-read_pairs-clause-reading
returns-in_err-read_pairs-clause-reading c =
    let p = err_from_is_err_and c.from_residual.result c.from_residual.ensures.1 in
    rw (p.1, p.2) (pairs-first _ _ _ _ _ (sym c.read_pairs.ensures ∙ c.in_err-read_pairs.was))

pub returns-in_err-names-clause-reading : goal.returns-in_err-names-clause-reading
returns-in_err-names-clause-reading c =
    let p = err_from_is_err_and c.from_residual-in_err-names.result c.from_residual-in_err-names.ensures.1 in
    let e = rw c.in_err-names.was at c.read.ensures.refused in
    rw (p.1, p.2) (dictionary-next _ _ _ _ _ (sym c.read_pairs.ensures ∙ c.in_ok-read_pairs.was) e)

pub returns-in_err-accepted-clause-reading : goal.returns-in_err-accepted-clause-reading
returns-in_err-accepted-clause-reading c =
    let p = err_from_is_err_and c.from_residual-in_err-accepted.result c.from_residual-in_err-accepted.ensures.1 in
    let same = rw c.in_ok-names.was at c.read.ensures.accepted in
    let e = rw c.in_err-accepted.was at c.read-2.ensures.refused in
    rw (p.1, p.2) (record-next _ _ _ _ _ (rw same at c.in_ok-names.names.accepted) e)

pub mark_unfolded-requires : goal.mark_unfolded-requires
mark_unfolded-requires c =
    let same = rw c.in_ok-names.was at c.read.ensures.accepted in
    (rw same c.requires, omega (arith, length-replicate {A = ℕ} 8192 0))

pub returns-clause-reading : goal.returns-clause-reading
returns-clause-reading c =
    let same = rw c.in_ok-names.was at c.read.ensures.accepted in
    let a = rw c.in_ok-accepted.was at c.read-2.ensures.accepted in
    description-last _ _ _ _ _ (rw same at c.in_ok-names.names.accepted) a.0 (rw same at c.mark_unfolded.ensures.reading)

pub returns-clause-marked : goal.returns-clause-marked
returns-clause-marked c =
    let same = rw c.in_ok-names.was at c.read.ensures.accepted in
    let a = rw c.in_ok-accepted.was at c.read-2.ensures.accepted in
    rw (same, a.1, a.2) at c.mark_unfolded.ensures.marked
