-- `check_wrong` meets its contract: the check, then the second sum.
use Rattle.blocks.proofs.Refusing.BlockLaws.{check-fails, second-decides}
use Rattle.reading.proofs.frame.check_wrong.Goals as goal

pub returns-then-word-block_check : goal.returns-then-word-block_check
returns-then-word-block_check c = check-fails _ _ c.word.ensures c.block_check.ensures c.if-word-block_check.true

pub returns : goal.returns
returns c =
    second-decides _ _ c.word.ensures c.block_check.ensures c.if-word-block_check.false
    c.word-2.ensures c.block_second.ensures
