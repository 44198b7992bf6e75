-- `get` meets its contract: the service was read.
use mathlib.Core.Path.{◌∙◌, ap}
use Rattle.blocks.specs.Reading.{reading_of}
use Rattle.blocks.specs.declared.Schema.TheVariants.{Description}
use Rattle.names.proofs.Legality.AcceptedReadings.{any-input}
use Rattle.slots.proofs.containment.Services.get.Goals as goal

pub invariant_of-result : goal.invariant_of-result
invariant_of-result c = record { read = any-input Description 2 1 _ (ap (reading_of Description 2) c.part-bytes.ensures ∙ c.total-total.ensures.1) }
