-- `blocks_read` meets its contract.
use mathlib.Core.Path.{refl}
use native.Mathlib.Omega.{arith}
use Rattle.blocks.specs.Frame.{blocks_in}
use Rattle.reading.proofs.reader.ReadingLaws.{length-allowed, none-read, not-multiple, too_long}
use Rattle.reading.proofs.reader.blocks_read.Goals as goal

pub returns-then-n-eq0 : goal.returns-then-n-eq0
returns-then-n-eq0 c = none-read _ _ c.if-n-eq0.true

pub returns-then-n-ne0 : goal.returns-then-n-ne0
returns-then-n-ne0 c = not-multiple _ _ c.if-n-eq0.false c.if-n-ne0.true

pub returns-then-most-n : goal.returns-then-most-n
returns-then-most-n c = too_long _ _ c.if-n-eq0.false c.if-n-ne0.false c.if-most-n.true

pub returns : goal.returns
unfolding blocks_in
returns c =
    (length-allowed _ _ c.if-n-eq0.false c.if-n-ne0.false c.if-most-n.false, refl, omega arith, omega arith, omega arith)
