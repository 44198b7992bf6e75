-- `index_pairs` meets its contract: before number k + 1 the index is that of the first k.
use Rattle.std.proofs.Common.{◌≡◌}
use Rattle.pairs.specs.code.Index.{indexed_to}
use Rattle.pairs.proofs.index.index_pairs.Given as goal

abbrev pub invariant-loop-k : goal.invariant-loop-k
invariant-loop-k l = l.index ≡ indexed_to l.pairs l.initial.index l.k
