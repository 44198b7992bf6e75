-- `specimen_first` meets its contract.
use mathlib.Core.Path.{◌∙◌, sym}
use Rattle.std.proofs.lemmas.Result.{err_from_is_err_and}
use Rattle.named.proofs.fitting.specimen_first.Goals as goal

pub returns-in_err-read_specimen : goal.returns-in_err-read_specimen
returns-in_err-read_specimen c =
    let p = err_from_is_err_and c.from_residual.result c.from_residual.ensures.1 in
    let e = sym c.read_specimen.ensures ∙ c.in_err-read_specimen.was in
    rw (p.1, p.2, e)

pub returns : goal.returns
returns c = let e = sym c.read_specimen.ensures ∙ c.in_ok-read_specimen.was in rw e
