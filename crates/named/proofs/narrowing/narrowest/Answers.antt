-- `narrowest` meets its contract: as they are sent, or the list is refused, or unfolded.
use mathlib.Core.Path.{◌∙◌, sym}
use Rattle.base.proofs.Tests.{eqb-eq}
use Rattle.named.proofs.NarrowestLaws.{narrowest-list, narrowest-none}
use Rattle.named.proofs.UnfoldedLaws.{goes-on}
use Rattle.std.proofs.lemmas.Result.{err_from_is_err_and}
use Rattle.named.proofs.narrowing.narrowest.Goals as goal

pub returns-then-is_empty : goal.returns-then-is_empty
returns-then-is_empty c =
    let z = eqb-eq (sym c.is_empty.ensures ∙ c.if-is_empty.true) in
    narrowest-none c.args.pairs.now c.args.dictionary.now z c.args.a.now c.args.b.now c.args.out.now c.narrowest_sent.ensures

pub narrowest_named-requires : goal.narrowest_named-requires
narrowest_named-requires c =
    goes-on c.args.pairs.now c.args.dictionary.now c.is_empty.ensures c.if-is_empty.false c.read_pairs.ensures c.in_ok-read_pairs.was

pub returns-in_err-read_pairs : goal.returns-in_err-read_pairs
returns-in_err-read_pairs c =
    let p = err_from_is_err_and c.from_residual.result c.from_residual.ensures.1 in
    let e = sym c.read_pairs.ensures ∙ c.in_err-read_pairs.was in
    rw (p.1, p.2) (narrowest-list c.args.pairs.now c.args.dictionary.now c.args.a.now c.args.b.now c.args.out.now e)
