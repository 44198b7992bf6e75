-- `contained_table` meets its contract: the list of pairs is refused, or accepted and indexed.
use mathlib.Core.Path.{◌∙◌, sym}
use Rattle.pairs.proofs.IndexLaws.{list-whole}
use Rattle.pairs.proofs.PairsAccepted.{list-few}
use Rattle.pairs.proofs.Under.{ruled-under}
use Rattle.std.proofs.lemmas.Result.{err_from_is_err_and}
use Rattle.slots.proofs.ContainmentLaws.{table-listed, table-refused}
use Rattle.slots.proofs.containment.contained_table.Goals as goal

pub returns-in_err-read_pairs : goal.returns-in_err-read_pairs
returns-in_err-read_pairs c =
    let p = err_from_is_err_and c.from_residual.result c.from_residual.ensures.1 in
    rw (p.1, p.2) (table-refused _ _ _ (sym c.read_pairs.ensures ∙ c.in_err-read_pairs.was))

pub judge_services-requires : goal.judge_services-requires
judge_services-requires c =
    let e = sym c.read_pairs.ensures ∙ c.in_ok-read_pairs.was in
    rw (c.new.ensures.listed ∙ list-whole _ (list-few _ e)) (ruled-under _ e)

pub returns : goal.returns
returns c =
    let e = sym c.read_pairs.ensures ∙ c.in_ok-read_pairs.was in
    let whole = c.new.ensures.listed ∙ list-whole _ (list-few _ e) in
    table-listed _ _ _ e (rw whole at c.judge_services.ensures)
