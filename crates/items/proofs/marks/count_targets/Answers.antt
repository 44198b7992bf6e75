-- `count_targets` meets its contract: an item is linked to 256 others at most, and a fact that is repeated adds nothing.
use Rattle.std.proofs.Common.{◌≡◌, ◌≤◌, length-set, ℕ, get_or, take, arith, sym, ap, refl, ◌∙◌}
use Rattle.items.proofs.DegreeLaws.{count_few, count-none, degrees-set}
use Rattle.items.specs.code.Facts.{linked_in}
use Rattle.items.proofs.marks.count_targets.Goals as goal

pub loop-fact-init : goal.loop-fact-init
loop-fact-init c = record {
  size = c.told-degrees;
  right = λ x h. c.requires.1 x h ∙ sym (count-none 256);
  before = λ h. absurd (omega arith);
  none = λ h. refl;
}

pub overflow_add-degrees : goal.overflow_add-degrees
overflow_add-degrees c =
    let i = c.loop-fact.invariant.right c.from.result (omega (arith, c.from.ensures, c.item_of.ensures)) in
    let f = count_few (λ y. linked_in (take c.loop-fact.fact-index c.args.facts.now) c.from.result y) 256 in
    omega (arith, i, f, c.is_other.ensures.1)

pub loop-fact-preserved : goal.loop-fact-preserved
loop-fact-preserved c =
    let i = c.loop-fact.invariant in record {
      size = length-set _ _ _ ∙ i.size;
      right = λ x h. degrees-set _ c.loop-fact.fact-index _ _ _ c.loop-fact.last x c.requires.0 c.loop-fact-test.true i.size h i.right i.before
          (λ z q. omega (arith, i.none z, c.requires.0.small c.loop-fact.fact-index c.loop-fact-test.true)) (c.from.ensures ∙ c.item_of.ensures) c.is_other.ensures.0;
      before = λ h. ap (λ (k : ℕ). get_or c.args.facts.now k 0) (omega arith);
      none = λ h. absurd (omega arith);
    }
