-- `first_failing` meets its contract: the list is refused, or accepted.
use mathlib.Core.Path.{◌∙◌, sym}
use Rattle.pairs.proofs.PairsAccepted.{list-few}
use Rattle.pairs.proofs.Under.{ruled-under}
use Rattle.slots.proofs.failing.JudgingLaws.{judging-list, judging-listed}
use Rattle.std.proofs.lemmas.Result.{err_from_is_err_and}
use Rattle.slots.proofs.failing.first_failing.Goals as goal

pub failing_listed-requires : goal.failing_listed-requires
failing_listed-requires c = let e = sym c.read_pairs.ensures ∙ c.in_ok-read_pairs.was in (list-few _ e, ruled-under _ e)

pub returns-in_err-read_pairs : goal.returns-in_err-read_pairs
returns-in_err-read_pairs c =
    let p = err_from_is_err_and c.from_residual.result c.from_residual.ensures.1 in
    rw (p.1, p.2) (judging-list _ _ _ _ (sym c.read_pairs.ensures ∙ c.in_err-read_pairs.was))

pub returns : goal.returns
returns c = judging-listed _ _ _ _ _ (sym c.read_pairs.ensures ∙ c.in_ok-read_pairs.was) c.failing_listed.ensures
