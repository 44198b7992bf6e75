-- `fill` meets its contract: the list is refused, or accepted.
use mathlib.Core.Path.{◌∙◌, sym}
use Rattle.pairs.proofs.PairsAccepted.{list-few}
use Rattle.slots.proofs.filling.FillingLaws.{filling-list, filling-listed}
use Rattle.std.proofs.lemmas.Result.{err_from_is_err_and}
use Rattle.slots.proofs.filling.fill.Goals as goal

pub fill_listed-requires : goal.fill_listed-requires
fill_listed-requires c = list-few _ (sym c.read_pairs.ensures ∙ c.in_ok-read_pairs.was)

pub returns-in_err-read_pairs : goal.returns-in_err-read_pairs
returns-in_err-read_pairs c =
    let p = err_from_is_err_and c.from_residual.result c.from_residual.ensures.1 in
    rw (p.1, p.2) (filling-list _ _ _ _ _ (sym c.read_pairs.ensures ∙ c.in_err-read_pairs.was))

pub returns : goal.returns
returns c =
    let a = c.args in
    let read = sym c.read_pairs.ensures ∙ c.in_ok-read_pairs.was in
    filling-listed _ a.d.now read a.table.now a.bad.now a.full.now _ _ _ c.fill_listed.ensures
