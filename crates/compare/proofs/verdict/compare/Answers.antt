-- `compare` meets its contract: a description of at most four blocks has at most 252 entries.
use native.Mathlib.Omega.{arith}
use Rattle.compare.proofs.verdict.RoomLaws.{both-within}
use Rattle.compare.proofs.verdict.compare.Goals as goal

pub compare_sized-requires-then-are_within-2 : goal.compare_sized-requires-then-are_within-2
compare_sized-requires-then-are_within-2 c =
    let within = both-within c.args.c.now c.args.d.now 2048 c.are_within-2.ensures c.if-are_within-2.true in
    (omega (arith, within.0), omega arith)
