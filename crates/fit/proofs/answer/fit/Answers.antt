-- `fit` meets its contract: the list or the specimen is refused, or the specimen is judged.
use Rattle.std.proofs.Common.{◌∙◌, ap, sym}
use Rattle.std.proofs.lemmas.Result.{err_from_is_err_and}
use Rattle.clashes.proofs.KeptApart.{reading-accepted}
use Rattle.fit.proofs.AnswerLaws.{first-accepted, first-refused}
use Rattle.fit.specs.declared.Counted.{Counted}
use Rattle.fit.proofs.answer.fit.Goals as goal

pub fit_accepted-counted-requires : goal.fit_accepted-counted-requires
fit_accepted-counted-requires c = rw c.from.ensures (reading-accepted _ _ (sym c.read_specimen.ensures ∙ c.in_ok-n.was))

pub returns-in_err-n : goal.returns-in_err-n
returns-in_err-n c =
    let p = err_from_is_err_and c.from_residual.result c.from_residual.ensures.1 in
    rw (p.1, p.2) (first-refused _ _ _ c.read_specimen.ensures c.in_err-n.was)

pub returns : goal.returns
returns c =
    first-accepted _ _ _ c.read_specimen.ensures c.in_ok-n.was
    (ap (λ (r : Counted). r.answer) c.fit_accepted-counted.ensures)
