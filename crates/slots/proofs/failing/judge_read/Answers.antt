-- `judge_read` meets its contract: too short, or judged in tables of one of the three sizes.
use native.Mathlib.Omega.{arith}
use Rattle.pairs.specs.Pairs.{under}
use Rattle.blocks.specs.declared.Schema.TheVariants.{Description}
use Rattle.names.proofs.Legality.AcceptedReadings.{any-input}
use Rattle.slots.proofs.FailingLaws.{accepted-few}
use Rattle.slots.proofs.failing.JudgingLaws.{judging-short}
use Rattle.slots.proofs.failing.judge_read.Goals as goal

pub returns-then-table-c : goal.returns-then-table-c
returns-then-table-c c = judging-short (under _) _ _ _ c.args.c.read (any-input Description 1 2 _ c.args.d.read) (omega (arith, c.if-table-c.true))

pub judge_under-requires-2 : goal.judge_under-requires-2
judge_under-requires-2 c =
    let n = (accepted-few 1 _ c.args.c.read).1 in
    let m = (accepted-few 1 _ c.args.d.read).1 in
    (c.requires, omega (arith, c.if-table-c.false), omega (arith, n), omega (arith, m), omega arith, omega arith, omega arith, omega arith, omega arith)

pub returns : goal.returns
returns c = c.judge_under-2.ensures
