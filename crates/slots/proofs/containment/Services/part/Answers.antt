-- `part` meets its contract: what is cut out of the list is the service.
use native.Mathlib.Omega.{arith}
use Rattle.slots.proofs.ContainmentLaws.{service-part, service-start}
use Rattle.slots.proofs.containment.Services.part.Goals as goal

pub slice_bounds-rest-count : goal.slice_bounds-rest-count
slice_bounds-rest-count c = service-start c.args.self.read c.requires

pub slice_bounds-rest-start : goal.slice_bounds-rest-start
slice_bounds-rest-start c = omega (arith, service-start c.args.self.read c.requires)

pub returns : goal.returns
returns c = service-part c.args.self.read c.requires c.part_length.ensures.0
