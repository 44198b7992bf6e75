-- `tag_properties` meets its contract: the tags are gathered, and the part that they fill is sorted.
use mathlib.Core.Bool.{false}
use Rattle.compare.proofs.places.RunMade.{run_sorted}
use Rattle.compare.proofs.settled.Slots.tag_properties.Goals as goal

pub returns : goal.returns
returns c = run_sorted c.args.self.now.stood c.args.v false _ c.requires.1 c.gather_properties-n.ensures c.sort.ensures
