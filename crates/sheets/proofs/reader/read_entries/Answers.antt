-- `read_entries` meets its contract.
use Rattle.std.proofs.Common.{◌∙◌, ap, sym}
use Rattle.std.proofs.lemmas.Result.{err_from_is_err_and}
use Rattle.blocks.proofs.Refusing.Readings.{accepted-finding, refused-alike}
use Rattle.blocks.specs.Reading.{answer}
use Rattle.sheets.proofs.reader.read_entries.Goals as goal

pub returns-in_err-check_entries : goal.returns-in_err-check_entries
returns-in_err-check_entries c =
    let p = err_from_is_err_and c.from_residual.result c.from_residual.ensures.1 in
    rw (p.1, p.2) (refused-alike 1 tt c.args.total _
    (sym (rw c.from.ensures at c.check_entries.ensures) ∙ c.in_err-check_entries.was))

pub returns : goal.returns
returns c =
    let f = accepted-finding 1 tt _ (sym (rw c.from.ensures at c.check_entries.ensures) ∙ c.in_ok-check_entries.was) in
    sym (ap (answer 1 c.args.total) f.1)
