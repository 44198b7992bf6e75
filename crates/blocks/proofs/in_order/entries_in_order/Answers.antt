use Rattle.std.proofs.Common.{sym, ◌∙◌, arith}
use Rattle.blocks.proofs.Refusing.InOrder.{left-open, left_later, length-cells, there-none, there-short}
use Rattle.blocks.proofs.in_order.entries_in_order.Goals as goal

pub returns-in_default-clause-items : goal.returns-in_default-clause-items
returns-in_default-clause-items c =
    let n = c.split_at.ensures.front_len in
    left_later c.as_chunks.result.0.now c.args.s.now 0 (omega (arith, c.as_chunks.ensures.front_len))
    ∙ there-none c.args.s.now 0 (omega arith) ∙ sym (there-short _ _ (omega (arith, c.in_default.ensures.cases)))

pub returns-in_default-clause-none : goal.returns-in_default-clause-none
returns-in_default-clause-none c = λ _. there-short _ _ (omega (arith, c.in_default.ensures.cases))

pub returns-clause-items : goal.returns-clause-items
returns-clause-items c =
    let i = c.in-Some.ensures.cases in
    rw (c.as_chunks-2.ensures.front, i.1) (left-open c.args.s.now c.in-Some.block.now c.args.total c.min-count.result (omega (arith, i.2)) i.0 c.min-count.ensures)

pub returns-clause-none : goal.returns-clause-none
returns-clause-none c = λ e.
    let i = c.in-Some.ensures.cases in
    there-none _ _ (omega (arith, e, c.as_chunks-2.ensures.front_len, length-cells c.args.s.now c.in-Some.block.now c.args.total c.min-count.result (omega (arith, i.2)) i.0 c.min-count.ensures))
