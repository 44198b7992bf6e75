-- `weigh_words` meets its contract: after some turns the sum is that of as many words, each times its number, modulo 65,536.
use Rattle.std.proofs.Common.{◌≡◌, ◌%◌}
use Rattle.base.specs.Range.{sum}
use Rattle.blocks.specs.code.WordPairs.{weighted_pair}
use Rattle.blocks.proofs.words.weigh_words.Given as goal

abbrev pub invariant-loop-k : goal.invariant-loop-k
invariant-loop-k l = l.acc ≡ sum (weighted_pair l.words) l.k % 65536
