-- `tag_links` meets its contract: the tags are gathered, and the part that they fill is sorted.
use mathlib.Core.Bool.{true}
use Rattle.compare.proofs.places.RunMade.{run_sorted}
use Rattle.compare.proofs.settled.Slots.tag_links.Goals as goal

pub returns : goal.returns
returns c = run_sorted c.args.self.now.stood c.args.v true _ c.requires.1 c.gather_links-n.ensures c.sort.ensures
