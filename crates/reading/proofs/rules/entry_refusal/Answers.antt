-- `entry_refusal` meets its contract: at a look, or test by test.
use mathlib.Core.Path.{sym}
use Rattle.reading.proofs.rules.entry_refusal.Goals as goal

pub returns-then-plainly_right : goal.returns-then-plainly_right
returns-then-plainly_right c = sym (c.plainly_right.ensures c.if-plainly_right.true)
