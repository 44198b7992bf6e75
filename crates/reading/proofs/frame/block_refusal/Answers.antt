-- `block_refusal` meets its contract: 2 before 3.
use Rattle.blocks.specs.code.ReadingSteps.{block_refusal}
use Rattle.reading.proofs.frame.block_refusal.Goals as goal

pub returns-then-check_wrong : goal.returns-then-check_wrong
unfolding block_refusal
returns-then-check_wrong g c = simp (block_refusal, ← c.check_wrong.ensures, c.if-check_wrong.true)

pub returns-then-frame_wrong : goal.returns-then-frame_wrong
unfolding block_refusal
returns-then-frame_wrong g c =
    simp (
      block_refusal,
      ← c.check_wrong.ensures,
      c.if-check_wrong.false,
      ← c.frame_wrong.ensures,
      c.if-frame_wrong.true,
    )

pub returns : goal.returns
unfolding block_refusal
returns g c =
    simp (
      block_refusal,
      ← c.check_wrong.ensures,
      c.if-check_wrong.false,
      ← c.frame_wrong.ensures,
      c.if-frame_wrong.false,
    )
