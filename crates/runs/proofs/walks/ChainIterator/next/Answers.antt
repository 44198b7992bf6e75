-- `next` meets its contract: nothing is left, or a slot and those behind it.
use Rattle.std.proofs.Common.{inl, inr, refl, sym, ◌∙◌}
use Rattle.runs.proofs.AlongChains.{chain-next, chain-none, read, slots-fall}
use Rattle.runs.proofs.walks.ChainIterator.next.Goals.{then-s-eq0-via-then-s-eq0, then-s-eq0-via-else-s-eq0+then-self-s}
use Rattle.runs.proofs.walks.ChainIterator.next.Goals as goal

pub returns-then-s-eq0-clause-steps : goal.returns-then-s-eq0-clause-steps
returns-then-s-eq0-clause-steps c =
    let none = sym c.self.view_is
    ∙ chain-none _
    (elim c.then-s-eq0.branch [
      | then-s-eq0-via-then-s-eq0 w ↦ inl w.if-s-eq0.true
      | then-s-eq0-via-else-s-eq0+then-self-s w ↦ inr w.if-self-s.true
    ]) in
    (none, none)

pub returns-clause-steps : goal.returns-clause-steps
returns-clause-steps c =
    sym c.self.view_is ∙ chain-next _ c.if-s-eq0.false c.if-self-s.false (read c.self.inside.before.now c.from.ensures) refl

pub returns-clause-goes : goal.returns-clause-goes
returns-clause-goes c =
    slots-fall _ (λ _. tt) _ _ _
    (sym c.self.view_is ∙ chain-next _ c.if-s-eq0.false c.if-self-s.false (read c.self.inside.before.now c.from.ensures) refl)
