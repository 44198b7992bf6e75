-- `mark_left` meets its contract: too short, or marked.
use mathlib.Core.Path.{◌∙◌}
use native.Mathlib.Omega.{arith}
use Rattle.earning.proofs.AnswerLaws.{ok-same}
use Rattle.earning.proofs.AttemptLaws.{left-given, left-short}
use Rattle.earning.proofs.attempt.mark_left.Goals as goal

pub returns-then-out-total : goal.returns-then-out-total
returns-then-out-total c =
    let a = c.args.attempt in
    left-short a.service.pairs.now a.stays.bytes.now a.tried.bytes.now a.service.d.now c.args.out.now (omega (arith, c.if-out-total.true, a.tried.counted))

pub returns : goal.returns
returns c =
    let a = c.args.attempt in
    let l = left-given a.service.pairs.now a.stays.bytes.now a.tried.bytes.now a.service.d.now c.args.out.now (omega (arith, c.if-out-total.false, a.tried.counted)) in
    let m = c.mark.ensures in
    (ok-same m.0 ∙ l.0, m.1 ∙ l.1)
