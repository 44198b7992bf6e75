-- `failing` meets its contract: refused, too short, or answered.
use Prim.Native.Nat.{ℕ}
use lib.ListN.{length-replicate}
use lib.Seq.{length-take-le}
use mathlib.Core.Path.{◌∙◌, sym}
use native.Mathlib.Omega.{arith}
use Rattle.failings.proofs.AnswerLaws.{answer-few, answer-given, answer-refused, answer-short}
use Rattle.std.proofs.lemmas.Result.{err_from_is_err_and}
use Rattle.failings.proofs.failing.Goals as goal

pub returns-in_err-judged : goal.returns-in_err-judged
returns-in_err-judged c =
    let a = c.args in
    let p = err_from_is_err_and c.from_residual.result c.from_residual.ensures.1 in
    rw (p.1, p.2) (answer-refused a.pairs.now a.c.now a.d.now a.out.now c.each_failing.ensures.0 c.in_err-judged.was)

pub returns-then-out-n : goal.returns-then-out-n
returns-then-out-n c =
    let a = c.args in
    answer-short a.pairs.now a.c.now a.d.now a.out.now c.each_failing.ensures.0 c.in_ok-judged.was (omega (arith, c.if-out-n.true, c.from-n.ensures))

pub slice_bounds-bytes-end : goal.slice_bounds-bytes-end
slice_bounds-bytes-end c =
    let a = c.args in
    omega (arith, c.from-n.ensures, c.each_failing.array_long, answer-few a.pairs.now a.c.now a.d.now a.out.now c.each_failing.ensures.0 c.in_ok-judged.was)

pub slice_bounds-copy_from_slice-end-3 : goal.slice_bounds-copy_from_slice-end-3
slice_bounds-copy_from_slice-end-3 c =
    let a = c.args in
    let few = answer-few a.pairs.now a.c.now a.d.now a.out.now c.each_failing.ensures.0 c.in_ok-judged.was in
    sym (length-take-le c.from-n.result c.each_failing.new.bytes (omega (arith, few, c.from-n.ensures, c.each_failing.array_long)))

pub copy_from_slice-requires : goal.copy_from_slice-requires
copy_from_slice-requires c =
    let a = c.args in
    let few = answer-few a.pairs.now a.c.now a.d.now a.out.now c.each_failing.ensures.0 c.in_ok-judged.was in
    length-take-le c.from-n.result c.args.out.now c.if-out-n.false
    ∙ sym (length-take-le c.from-n.result c.each_failing.new.bytes (omega (arith, few, c.from-n.ensures, c.each_failing.array_long)))

pub returns : goal.returns
returns c =
    let a = c.args in
    answer-given a.pairs.now a.c.now a.d.now a.out.now c.each_failing.ensures.0 c.in_ok-judged.was (omega (arith, c.if-out-n.false, c.from-n.ensures))
    _ (length-replicate {A = ℕ} 1008 0) c.each_failing.ensures.1 (rw (← c.from-n.ensures, c.copy_from_slice.ensures.after))
