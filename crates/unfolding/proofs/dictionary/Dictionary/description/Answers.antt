-- `description` meets its contract: what is cut out of the bytes is the description.
use Rattle.std.proofs.Common.{◌≤◌, length}
use native.Mathlib.Omega.{arith}
use Rattle.unfolding.proofs.dictionary.Dictionary.description.Goals.{After-start-at}
use Rattle.unfolding.proofs.PassLaws.{cut-is, ready-start}
use Rattle.unfolding.proofs.dictionary.Dictionary.description.Goals as goal

-- it begins within the bytes
within : (c : After-start-at) → c.start-at.result ≤ length c.args.self.bytes.now
within c = (ready-start c.args.self.bytes.now c.args.self.ready c.args.n c.requires.0 c.requires.1 c.start-at.ensures).1

pub slice_bounds-rest-count : goal.slice_bounds-rest-count
slice_bounds-rest-count c = omega (arith, within (goal.at.slice_bounds-rest-count c).After-start-at)

pub slice_bounds-rest-start : goal.slice_bounds-rest-start
slice_bounds-rest-start c = omega (arith, within (goal.at.slice_bounds-rest-start c).After-start-at)

pub returns : goal.returns
returns c = cut-is c.args.self.bytes.now c.args.self.ready c.args.n c.requires.0 c.requires.1 c.start-at.ensures c.part_length.ensures.0
