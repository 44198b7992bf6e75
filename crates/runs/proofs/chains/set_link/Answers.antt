-- `set_link` meets its contract: past the end nothing is set.
use lib.Seq.{set_out}
use mathlib.Core.Path.{sym}
use Rattle.runs.proofs.chains.set_link.Goals as goal

pub returns-else-i-links : goal.returns-else-i-links
returns-else-i-links c = sym (set_out _ _ _ c.if-i-links.false)
