-- `lowest` meets its contract: there is none, or the lowest bit.
use Rattle.std.proofs.Common.{arith}
use Rattle.hierarchy.proofs.WordLaws.{lowest-none, lowest-some}
use Rattle.hierarchy.proofs.classes.lowest.Goals as goal

pub returns-then-word-eq0 : goal.returns-then-word-eq0
returns-then-word-eq0 c = λ f n few T. lowest-none T c.if-word-eq0.true

pub returns : goal.returns
returns c = λ f n few T. lowest-some T c.if-word-eq0.false (omega arith)
