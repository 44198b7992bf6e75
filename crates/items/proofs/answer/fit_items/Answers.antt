-- `fit_items` meets its contract: refused, too short, or written.
use Rattle.std.proofs.Common.{◌∙◌, sym, arith}
use Rattle.std.proofs.lemmas.Result.{err_from_is_err_and}
use Rattle.items.proofs.AnswerLaws.{answer-refused, answer-short, answer-written, items-few}
use Rattle.items.proofs.answer.fit_items.Goals as goal

pub returns-in_err-mark_items : goal.returns-in_err-mark_items
returns-in_err-mark_items c =
    let p = err_from_is_err_and c.from_residual.result c.from_residual.ensures.1 in
    rw (p.1, p.2) (answer-refused _ _ _ _ _ _ (sym c.mark_items.ensures.reading ∙ c.in_err-mark_items.was))

pub returns-then-out-total : goal.returns-then-out-total
returns-then-out-total c = answer-short _ _ _ _ _ _ (sym c.mark_items.ensures.reading ∙ c.in_ok-mark_items.was) c.if-out-total.true

pub put_bytes-requires : goal.put_bytes-requires
put_bytes-requires c =
    (items-few _ _ _ _ _ (sym c.mark_items.ensures.reading ∙ c.in_ok-mark_items.was), omega (arith, c.if-out-total.false))

pub overflow_cast-result : goal.overflow_cast-result
overflow_cast-result c = omega (arith, items-few _ _ _ _ _ (sym c.mark_items.ensures.reading ∙ c.in_ok-mark_items.was))

pub returns : goal.returns
returns c =
    let m = rw c.in_ok-mark_items.was at c.mark_items.ensures.marked in
    let b = c.put_bytes.ensures in
    answer-written _ _ _ _ _ _ c.mark_items.new.marks (sym c.mark_items.ensures.reading ∙ c.in_ok-mark_items.was) (omega (arith, c.if-out-total.false)) m b.long b.here b.later
