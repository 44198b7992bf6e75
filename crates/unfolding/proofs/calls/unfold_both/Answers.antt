-- `unfold_both` meets its contract: the dictionary is read, and then both descriptions.
use mathlib.Core.Path.{refl}
use Rattle.unfolding.proofs.CallLaws.{both-stops, dictionary-stops}
use Rattle.std.proofs.lemmas.Result.{err_from_is_err_and}
use Rattle.unfolding.proofs.calls.unfold_both.Goals as goal

pub returns-in_err-dictionary : goal.returns-in_err-dictionary
returns-in_err-dictionary c =
    let p = err_from_is_err_and c.from_residual.result c.from_residual.ensures.1 in
    let f = both-stops c.args.dictionary.now c.args.c.now c.args.d.now c.args.a.now c.args.b.now
    (dictionary-stops c.args.dictionary.now 1 c.args.c.now refl c.in_err-dictionary.ensures.refused) in
    rw (p.1, p.2) (f.0, f.1.0, f.1.1)
