-- Chains of the numbers of a bucket, as they are handed out.
-- Assumes nothing.
use Rattle.std.specs.Prelude.{◌≡◌, List, ℕ}
use Rattle.fit.specs.declared.chain.Chain.{Chain}

-- a chain over the table t of `most` buckets, which comes to number k next
abbrev pub ComesTo : List ℕ → ℕ → ℕ → Chain → Type 0
ComesTo t most k chain = (chain.table.now ≡ t) × (chain.most ≡ most) × (chain.next ≡ k)
