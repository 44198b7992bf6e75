-- `of` meets its contract: what stands in the tables can be searched.
use Rattle.slots.proofs.slots.KeyBounds.{searchable}
use Rattle.slots.proofs.slots.Slots.of.Goals as goal

pub invariant_of-result-clause-kept : goal.invariant_of-result-clause-kept
invariant_of-result-clause-kept g c = searchable c.requires.0
