-- `excluded_beside` has found no partner under the numbers above the next one of its bucket.
use Rattle.std.proofs.Common.{◌≡◌, ◌≢◌, ℕ, Bool, IfSome, unwrap_or}
use Rattle.base.specs.Chain.{OnChain}
use Rattle.pairs.specs.code.Index.{bucket_of, named_at, named_count, partnered}
use Rattle.pairs.specs.code.Sides.{Marks}
use Rattle.pairs.proofs.exclusions.Exclusions.excluded_beside.Given as goal

abbrev pub invariant-loop-next : goal.invariant-loop-next
invariant-loop-next l = record {
  on : OnChain (λ k. bucket_of (named_at l.self.pairs.now k)) (bucket_of l.p.0) (unwrap_or l.next 0) (named_count l.self.pairs.now);
  number : IfSome l.next (λ k. k ≢ 0);
  left : (has : ℕ → Bool) → Marks l.self.pairs.now has l.held
      → partnered l.self.pairs.now has l.p.0 (unwrap_or l.next 0) ≡ partnered l.self.pairs.now has l.p.0 (named_count l.self.pairs.now);
}

abbrev pub decreases-loop-next : goal.decreases-loop-next
decreases-loop-next l = unwrap_or l.next 0
