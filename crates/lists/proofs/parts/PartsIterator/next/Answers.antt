-- `next` meets its contract: what is left has no part, or its first part and those behind it.
use Rattle.std.proofs.Common.{sym, ◌∙◌}
use Rattle.base.proofs.Tests.{eqb-eq, eqb-ne}
use Rattle.lists.proofs.LoopLaws.{left-parts, parts-fall}
use Rattle.lists.proofs.PartLaws.{parts_none}
use Rattle.lists.proofs.parts.PartsIterator.next.Goals as goal

pub returns-then-is_empty-clause-steps : goal.returns-then-is_empty-clause-steps
returns-then-is_empty-clause-steps c =
    let none = sym c.self.view_is ∙ parts_none _ (eqb-eq (sym c.is_empty.ensures ∙ c.if-is_empty.true)) in
    (none, none)

pub returns-clause-steps : goal.returns-clause-steps
returns-clause-steps c =
    sym c.self.view_is ∙ left-parts _ (eqb-ne (sym c.is_empty.ensures ∙ c.if-is_empty.false)) c.part_length-n.ensures.0

pub returns-clause-goes : goal.returns-clause-goes
returns-clause-goes c =
    parts-fall _ (λ _. tt) _ _ _
    (sym c.self.view_is ∙ left-parts _ (eqb-ne (sym c.is_empty.ensures ∙ c.if-is_empty.false)) c.part_length-n.ensures.0)
