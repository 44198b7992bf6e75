-- `fill_indexed` meets its contract: refused, or accepted.
use mathlib.Core.Path.{◌∙◌, sym}
use Rattle.pairs.specs.Pairs.{under}
use Rattle.slots.proofs.filling.FillingLaws.{filling-refused}
use Rattle.std.proofs.lemmas.Result.{err_from_is_err_and}
use Rattle.slots.proofs.filling.fill_indexed.Goals as goal

pub returns-in_err-n : goal.returns-in_err-n
returns-in_err-n c =
    let p = err_from_is_err_and c.from_residual.result c.from_residual.ensures.1 in
    rw (p.1, p.2) (filling-refused (under _) _ (sym c.read.ensures ∙ c.in_err-n.was) _ _ _)
