-- `unfold_into` meets its contract: the dictionary is read, and then the description.
use mathlib.Core.Path.{refl}
use Rattle.unfolding.proofs.CallLaws.{dictionary-stops, unfold-stops}
use Rattle.std.proofs.lemmas.Result.{err_from_is_err_and}
use Rattle.unfolding.proofs.calls.unfold_into.Goals as goal

pub returns-in_err-dictionary : goal.returns-in_err-dictionary
returns-in_err-dictionary c =
    let p = err_from_is_err_and c.from_residual.result c.from_residual.ensures.1 in
    rw (p.1, p.2)
    (unfold-stops c.args.dictionary.now c.args.input c.args.d.now c.args.out.now
    (dictionary-stops c.args.dictionary.now c.args.input c.args.d.now refl c.in_err-dictionary.ensures.refused))
