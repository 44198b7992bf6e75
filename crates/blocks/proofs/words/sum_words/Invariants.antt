-- `sum_words` meets its contract: after some turns the sum is that of as many words, modulo 65,536.
use Rattle.std.proofs.Common.{◌≡◌, ◌%◌}
use Rattle.base.specs.Range.{sum}
use Rattle.blocks.specs.code.WordPairs.{pair}
use Rattle.blocks.proofs.words.sum_words.Given as goal

abbrev pub invariant-loop-bytes : goal.invariant-loop-bytes
invariant-loop-bytes l = l.acc ≡ sum (pair l.words) l.bytes-index % 65536
