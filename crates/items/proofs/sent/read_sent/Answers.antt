-- `read_sent` meets its contract: as a plain description, or else refused as one with names.
use Rattle.std.proofs.Common.{◌∙◌, refl, sym}
use Rattle.std.proofs.lemmas.Result.{err_from_is_err_and}
use Rattle.items.proofs.AnswerLaws.{none-refused, none-unfolds}
use Rattle.names.proofs.Legality.AcceptedReadings.{nameless-sent}
use Rattle.items.proofs.sent.read_sent.Goals as goal

pub returns-in-Ok-clause-accepted : goal.returns-in-Ok-clause-accepted
returns-in-Ok-clause-accepted g c =
    let a = rw c.in-Ok.is at c.read.ensures.accepted in
    (none-unfolds _ (sym c.requires ∙ a.0), a.1)

pub returns-in_err-read-in-Err-clause-refused : goal.returns-in_err-read-in-Err-clause-refused
returns-in_err-read-in-Err-clause-refused g c =
    let p = err_from_is_err_and c.from_residual.result c.from_residual.ensures.1 in
    rw (p.1, p.2) (sym (nameless-sent 2 _ _ refl) ∙ sym c.read-in-Err.ensures ∙ c.in_err-read-in-Err.was)

pub returns-in_ok-read-in-Err-clause-refused : goal.returns-in_ok-read-in-Err-clause-refused
returns-in_ok-read-in-Err-clause-refused g c =
    let e = rw c.in-Err.is at c.read.ensures.refused in
    none-refused _ (sym c.requires ∙ e) (sym c.read-in-Err.ensures ∙ c.in_ok-read-in-Err.was)
