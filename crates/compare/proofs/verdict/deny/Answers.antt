-- `deny` meets its contract: too short, or shown.
use mathlib.Core.Path.{◌∙◌, sym}
use Rattle.base.proofs.Tests.{ltb-lt}
use Rattle.compare.proofs.verdict.RoomLaws.{both-short}
use Rattle.compare.proofs.verdict.VerdictLaws.{read_short}
use Rattle.compare.proofs.verdict.deny.Goals as goal

pub is_short-requires : goal.is_short-requires
is_short-requires c = both-short c.requires.failed.read

pub returns-then-is_short : goal.returns-then-is_short
returns-then-is_short c = λ b R f. read_short b _ _ _ f.read (ltb-lt (sym c.is_short.ensures ∙ c.if-is_short.true))
