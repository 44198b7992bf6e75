-- `judge_top` meets its contract: no accepted input has more than 2,016 entries.
use mathlib.Core.Path.{refl}
use native.Mathlib.Omega.{arith}
use Rattle.fit.proofs.AnswerLaws.{accepted-facts}
use Rattle.fit.proofs.tables.judge_top.Goals as goal

pub judge_sized-requires-else-longer-lt1024 : goal.judge_sized-requires-else-longer-lt1024
judge_sized-requires-else-longer-lt1024 c =
    let f = accepted-facts _ _ _ c.requires.0 in
    let g = accepted-facts _ _ _ c.requires.1 in
    (c.requires.0, c.requires.1, omega (arith, f.1), omega (arith, g.1), omega arith, refl, refl)
