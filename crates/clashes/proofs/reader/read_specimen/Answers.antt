-- `read_specimen` meets its contract: the list, then the specimen.
use Rattle.std.proofs.Common.{◌∙◌, sym}
use Rattle.std.proofs.lemmas.Result.{err_from_is_err_and}
use Rattle.clashes.proofs.Ways.{list-refused}
use Rattle.clashes.proofs.reader.read_specimen.Goals as goal

pub read_under-requires : goal.read_under-requires
read_under-requires c = sym c.read_pairs.ensures ∙ c.in_ok-m.was

pub returns-in_err-m : goal.returns-in_err-m
returns-in_err-m c =
    let p = err_from_is_err_and c.from_residual.result c.from_residual.ensures.1 in
    rw (p.1, p.2) (sym (list-refused _ _ (sym c.read_pairs.ensures ∙ c.in_err-m.was)))
