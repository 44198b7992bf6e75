-- `used_ok` meets its contract, test by test.
use native.Mathlib.Numerals.{add-one}
use Rattle.base.proofs.Tests.{ge-ltb, gt-leb, le-leb, lt-ltb}
use Rattle.blocks.specs.Frame.{used_ok}
use Rattle.reading.proofs.frame.used_ok.Goals as goal

pub returns-then-i-n : goal.returns-then-i-n
unfolding used_ok
returns-then-i-n g c = simp (used_ok, ← add-one, lt-ltb c.if-i-n.true)

pub returns-then-used-gt0 : goal.returns-then-used-gt0
unfolding used_ok
returns-then-used-gt0 g c = simp (used_ok, ← add-one, ge-ltb c.if-i-n.false, le-leb c.if-used.true, lt-ltb c.if-used-gt0.true)

pub returns-else-used-gt0 : goal.returns-else-used-gt0
unfolding used_ok
returns-else-used-gt0 g c = simp (used_ok, ← add-one, ge-ltb c.if-i-n.false, le-leb c.if-used.true, ge-ltb c.if-used-gt0.false)

pub returns-else-used : goal.returns-else-used
unfolding used_ok
returns-else-used g c = simp (used_ok, ← add-one, ge-ltb c.if-i-n.false, gt-leb c.if-used.false)
