use Rattle.std.proofs.Common.{refl, ◌≡◌, [], length, sym, ap, ◌∙◌, arith, rules}
use Rattle.std.proofs.lemmas.Bool.Decides.{nat_tests}
use Rattle.blocks.specs.code.Blockwise.{entries_left}
use Rattle.blocks.proofs.Refusing.InOrder.{left-next, left_later}
use Rattle.blocks.proofs.in_order.InOrderIterator.next.Goals as goal
use Rattle.blocks.proofs.in_order.InOrderIterator.next.Goals.{After-split_first, then-is_empty, else-is_empty}

-- where a block had to be opened, the same is left as before
still : (c : After-split_first) → let n = c.if-is_empty.self in let o = c.args.self.now in entries_left o.here.now o.later.now o.left ≡ entries_left n.here.now n.later.now n.left
still c = let o = c.args.self.now in
    elim c.if-is_empty.branch [
      | then-is_empty w ↦
          left_later o.here.now o.later.now o.left (grind (arith, nat_tests)) ∙ rw (w.self-is) (sym w.entries_in_order.ensures.items)
      | else-is_empty w ↦ rw w.self-is
    ]

pub returns-in_err-bytes-clause-steps : goal.returns-in_err-bytes-clause-steps
returns-in_err-bytes-clause-steps c =
    let i = c.from_residual.ensures in
    let h = still (goal.at.returns-in_err-bytes-clause-steps c).After-split_first in
    let n = c.if-is_empty.self in
    let none : entries_left n.here.now n.later.now n.left ≡ [] =
    elim c.if-is_empty.branch [
      | then-is_empty w ↦
          rw w.self-is (w.entries_in_order.ensures.items ∙ w.entries_in_order.ensures.none (rw w.self-is at c.in_err-bytes.ensures.cases))
      | else-is_empty w ↦ absurd (grind (arith, nat_tests))
    ] in
    rw i (h ∙ none, none)

pub returns-clause-steps : goal.returns-clause-steps
returns-clause-steps c =
    still (goal.at.returns-clause-steps c).After-split_first ∙ left-next _ _ _ _ _ c.in_ok-bytes.ensures.cases.0 refl

pub returns-clause-goes : goal.returns-clause-goes
returns-clause-goes c =
    let step = still (goal.at.returns-clause-goes c).After-split_first ∙ left-next _ _ _ _ _ c.in_ok-bytes.ensures.cases.0 refl in
    let shorter = ap length step in search rules
