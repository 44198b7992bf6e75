-- `judge_services` meets its contract: the list is cut, its services are read, and their rows are stored.
use mathlib.Core.Path.{◌∙◌, sym}
use Rattle.std.proofs.lemmas.Result.{err_from_is_err_and}
use Rattle.slots.proofs.CutLaws.{cut-few}
use Rattle.slots.proofs.ContainmentLaws.{list-cut, services-refused, services-tabled}
use Rattle.slots.proofs.containment.judge_services.Goals as goal

pub returns-in_err-count_services : goal.returns-in_err-count_services
returns-in_err-count_services c =
    let p = err_from_is_err_and c.from_residual.result c.from_residual.ensures.1 in
    rw (p.1, p.2) (list-cut _ _ _ (sym c.count_services.ensures ∙ c.in_err-count_services.was))

pub read_services-requires : goal.read_services-requires
read_services-requires c = cut-few _ (sym c.count_services.ensures ∙ c.in_ok-count_services.was)

pub returns-in_err-count : goal.returns-in_err-count
returns-in_err-count c =
    let p = err_from_is_err_and c.from_residual-in_err-count.result c.from_residual-in_err-count.ensures.1 in
    rw (p.1, p.2) (services-refused _ _ _ (sym c.count_services.ensures ∙ c.in_ok-count_services.was) c.in_err-count.ensures.refused)

pub returns : goal.returns
returns c =
    let r = c.in_ok-count.ensures.read in
    services-tabled _ _ _ (sym c.count_services.ensures ∙ c.in_ok-count_services.was) r.0 r.1.all (c.judge_rows.ensures)
