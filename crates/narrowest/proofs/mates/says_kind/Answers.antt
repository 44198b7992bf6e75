-- `says_kind` meets its contract: something is counted.
use mathlib.Core.Path.{◌∙◌}
use Rattle.narrowest.proofs.mates.SaysLaws.{counted-some, some-numbers}
use Rattle.narrowest.proofs.mates.says_kind.Goals as goal

pub returns : goal.returns
returns c = counted-some _ c.push_kind.ensures ∙ some-numbers _ _
