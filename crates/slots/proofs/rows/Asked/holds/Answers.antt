-- `holds` meets its contract: the largest tables have room for every description.
use native.Mathlib.Omega.{arith}
use Rattle.pairs.specs.Pairs.{under}
use Rattle.slots.proofs.FailingLaws.{accepted-few}
use Rattle.slots.proofs.rows.ListingLaws.{listing-fails}
use Rattle.slots.proofs.rows.Asked.holds.Goals as goal

pub returns-then-self-lt64 : goal.returns-then-self-lt64
returns-then-self-lt64 c = listing-fails (under _) _ _ c.held_under.ensures

pub returns-then-self-lt253 : goal.returns-then-self-lt253
returns-then-self-lt253 c = listing-fails (under _) _ _ c.held_under-then-self-lt253.ensures

pub held_under-requires-2 : goal.held_under-requires-2
held_under-requires-2 c =
    let m = (accepted-few 2 _ c.args.self.read).1 in
    (omega (arith, c.args.listing.few), omega (arith, m), omega arith, omega arith, omega arith, omega arith, omega arith)

pub returns : goal.returns
returns c = listing-fails (under _) _ _ c.held_under-2.ensures
