-- `unfold_two` meets its contract: the first description, and then the second.
use Rattle.unfolding.proofs.CallLaws.{both_first, both-second, both-unfolded}
use Rattle.std.proofs.lemmas.Result.{err_from_is_err_and}
use Rattle.unfolding.proofs.calls.unfold_two.Goals as goal

pub returns-in_err-n : goal.returns-in_err-n
returns-in_err-n c =
    let p = err_from_is_err_and c.from_residual.result c.from_residual.ensures.1 in
    let w = c.unfold_into.ensures in
    let f = both_first c.args.dictionary.bytes.now c.args.c.now c.args.d.now c.args.a.now c.args.b.now w.0 c.in_err-n.was in
    rw (p.1, p.2) (f.0, w.1, f.1)

pub returns-in_err-m : goal.returns-in_err-m
returns-in_err-m c =
    let p = err_from_is_err_and c.from_residual-in_err-m.result c.from_residual-in_err-m.ensures.1 in
    let w = c.unfold_into.ensures in
    let v = c.unfold_into-2.ensures in
    let f = both-second c.args.dictionary.bytes.now c.args.c.now c.args.d.now c.args.a.now c.args.b.now w.0 c.in_ok-n.was v.1 v.0 c.in_err-m.was in
    rw (p.1, p.2) (f.0, w.1, f.1)

pub returns : goal.returns
returns c =
    let w = c.unfold_into.ensures in
    let v = c.unfold_into-2.ensures in
    let f = both-unfolded c.args.dictionary.bytes.now c.args.c.now c.args.d.now c.args.a.now c.args.b.now w.0 c.in_ok-n.was v.1 v.0 c.in_ok-m.was in
    (f.0, w.1, f.1)
