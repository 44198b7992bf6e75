use Rattle.std.proofs.Common.{length-set, arith, refl, ◌∙◌}
use Rattle.std.proofs.lemmas.List.{get_or-replicate}
use Rattle.std.proofs.lemmas.Grind.{common_steps}
use Rattle.items.proofs.marks.keep_having.Goals as goal

pub loop-fact-init : goal.loop-fact-init
loop-fact-init c = record { size = refl; right = λ x h. get_or-replicate 256 x _ _ h }

pub loop-fact-preserved : goal.loop-fact-preserved
loop-fact-preserved c = record {
  size = length-set _ _ _ ∙ c.loop-fact.invariant.size;
  right = λ x h. let i = c.loop-fact.invariant.right x h in grind (arith, common_steps, i, c.loop-fact.invariant.size);
}
