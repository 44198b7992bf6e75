-- `read_under` meets its contract.
use Rattle.std.proofs.Common.{◌∙◌, sym}
use Rattle.std.proofs.lemmas.Result.{err_from_is_err_and}
use Rattle.clashes.proofs.Ways.{none-listed, specimen-refused}
use Rattle.clashes.proofs.reader.read_under.Goals as goal

pub returns-then-m-eq0 : goal.returns-then-m-eq0
returns-then-m-eq0 c = sym c.in_ok-n.was ∙ c.read.ensures ∙ sym (none-listed _ _ c.requires c.if-m-eq0.true)

pub read_clashes-requires : goal.read_clashes-requires
read_clashes-requires c = (c.requires, sym c.read.ensures ∙ c.in_ok-n.was)

pub returns-in_err-n : goal.returns-in_err-n
returns-in_err-n c =
    let p = err_from_is_err_and c.from_residual.result c.from_residual.ensures.1 in
    rw (p.1, p.2) (sym (specimen-refused _ _ c.requires (sym c.read.ensures ∙ c.in_err-n.was)))
