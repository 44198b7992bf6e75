-- `normalise_sized` meets its contract: refused, or the packed entries of the normal form are written as blocks.
use Prim.Native.Nat.{ℕ}
use Rattle.blocks.specs.Encoding.{written}
use mathlib.Core.Path.{◌∙◌, ap, sym}
use Rattle.normal.proofs.AnswerLaws.{form-refused}
use Rattle.normal.proofs.NormalWritten.{form-short, form-written}
use Rattle.std.proofs.lemmas.Result.{err_from_is_err_and}
use Rattle.normal.proofs.output.normalise_sized.Goals as goal

pub returns-in_err-count : goal.returns-in_err-count
returns-in_err-count g c =
    let p = err_from_is_err_and c.from_residual.result c.from_residual.ensures.1 in
    let r = form-refused c.args.pairs.now c.args.d.now c.args.out.now (sym c.rows_sized.ensures.0 ∙ c.in_err-count.was) in
    rw (p.1, p.2) (sym r.0, sym r.1)

pub returns-then-out-d : goal.returns-then-out-d
returns-then-out-d g c =
    let F = rw c.in_ok-count.was at c.rows_sized.ensures.1 in
    let r = form-short c.args.out.now F c.if-out-d.true in
    (sym r.0, sym r.1)

pub returns : goal.returns
returns g c =
    let F = rw c.in_ok-count.was at c.rows_sized.ensures.1 in
    let w = form-written c.args.out.now F c.if-out-d.false in
    (sym w.0, c.write_entries.ensures.1 ∙ ap (λ (n : ℕ). written c.args.out.now c.rows_sized.new.rows n) c.from.ensures ∙ w.1)
