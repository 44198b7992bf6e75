-- `catalogue` meets its contract: refused, too short, or filled.
use lib.Seq.{length-take-le}
use mathlib.Core.Path.{◌∙◌, sym}
use native.Mathlib.Omega.{arith}
use Rattle.catalogue.proofs.AnswerLaws.{answer-few, answer-filled, answer-refused, answer-short}
use Rattle.std.proofs.lemmas.Result.{err_from_is_err_and}
use Rattle.catalogue.proofs.catalogue.Goals as goal

pub returns-in_err-count : goal.returns-in_err-count
returns-in_err-count c =
    let p = err_from_is_err_and c.from_residual.result c.from_residual.ensures.1 in
    rw (p.1, p.2)
    (answer-refused c.args.pairs.now c.args.dictionary.now c.args.c.now c.args.list.now c.args.out.now c.judge_list.ensures.0 c.in_err-count.was)

pub returns-then-out-n : goal.returns-then-out-n
returns-then-out-n c =
    answer-short c.args.pairs.now c.args.dictionary.now c.args.c.now c.args.list.now c.args.out.now c.judge_list.ensures.0 c.in_ok-count.was (omega arith)

pub slice_bounds-answers-end : goal.slice_bounds-answers-end
slice_bounds-answers-end c =
    let j = c.judge_list.ensures in
    omega (arith, answer-few c.args.pairs.now c.args.dictionary.now c.args.c.now c.args.list.now c.args.out.now j.0 c.in_ok-count.was j.1)

pub slice_bounds-copy_from_slice-end-3 : goal.slice_bounds-copy_from_slice-end-3
slice_bounds-copy_from_slice-end-3 c =
    let j = c.judge_list.ensures in
    let few = answer-few c.args.pairs.now c.args.dictionary.now c.args.c.now c.args.list.now c.args.out.now j.0 c.in_ok-count.was j.1 in
    sym (length-take-le c.from-n.result c.judge_list.new.answers (omega arith))

pub copy_from_slice-requires : goal.copy_from_slice-requires
copy_from_slice-requires c =
    let j = c.judge_list.ensures in
    let few = answer-few c.args.pairs.now c.args.dictionary.now c.args.c.now c.args.list.now c.args.out.now j.0 c.in_ok-count.was j.1 in
    length-take-le c.from-n.result c.args.out.now c.if-out-n.false ∙ sym (length-take-le c.from-n.result c.judge_list.new.answers (omega arith))

pub returns : goal.returns
returns c =
    let j = c.judge_list.ensures in
    answer-filled c.args.pairs.now c.args.dictionary.now c.args.c.now c.args.list.now c.args.out.now j.0 c.in_ok-count.was (omega arith) j.1
    (rw (← c.from-n.ensures, c.copy_from_slice.ensures.after))
