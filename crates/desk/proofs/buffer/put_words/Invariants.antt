-- `put_words` meets its contract: after j turns the first j words are stored.
use Rattle.std.proofs.Common.{◌≡◌, map, take}
use Rattle.base.specs.Stores.{stored}
use Rattle.blocks.specs.Encoding.{joined}
use Rattle.blocks.specs.Words.{word_bytes}
use Rattle.desk.proofs.buffer.put_words.Given as goal

abbrev pub invariant-loop-j : goal.invariant-loop-j
invariant-loop-j l = l.buffer ≡ stored l.initial.buffer 0 (joined (map word_bytes (take l.j l.words)))
