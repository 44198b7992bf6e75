-- `agree` meets its contract: too short, or contained.
use mathlib.Core.Path.{◌∙◌, sym}
use Rattle.base.proofs.Tests.{ltb-ge, ltb-lt}
use Rattle.compare.proofs.verdict.RoomLaws.{both-short}
use Rattle.compare.proofs.verdict.VerdictLaws.{agreed-contained, read_short}
use Rattle.compare.proofs.verdict.agree.Goals as goal

pub is_short-requires : goal.is_short-requires
is_short-requires c = both-short c.requires

pub returns-then-is_short : goal.returns-then-is_short
returns-then-is_short c = λ b a. read_short b _ _ _ c.requires (ltb-lt (sym c.is_short.ensures ∙ c.if-is_short.true))

pub returns : goal.returns
returns c = λ b a. agreed-contained b _ _ _ a (ltb-ge (sym c.is_short.ensures ∙ c.if-is_short.false))
