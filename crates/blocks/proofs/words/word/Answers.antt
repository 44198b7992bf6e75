-- `word` meets its contract: both bytes, or 0 past the end.
use Rattle.std.proofs.Common.{sym}
use Rattle.blocks.proofs.words.WordLaws.{word-past}
use Rattle.blocks.proofs.words.word.Goals as goal

pub returns-then-s-at : goal.returns-then-s-at
returns-then-s-at c = sym (word-past _ _ c.if-s-at.true)
