-- `sides` has the bits of the numbers of the property above the next one of its bucket.
use Rattle.std.proofs.Common.{◌≢◌, IfSome, unwrap_or}
use Rattle.base.specs.Chain.{OnChain}
use Rattle.pairs.proofs.SidesLaws.{Walked}
use Rattle.pairs.specs.code.Index.{bucket_of, named_at, named_count}
use Rattle.pairs.proofs.exclusions.Exclusions.sides.Given as goal

abbrev pub invariant-loop-next : goal.invariant-loop-next
invariant-loop-next l = record {
  on : OnChain (λ k. bucket_of (named_at l.self.pairs.now k)) (bucket_of l.p.0) (unwrap_or l.next 0) (named_count l.self.pairs.now);
  number : IfSome l.next (λ k. k ≢ 0);
  walked : Walked l.self.pairs.now l.p.0 (unwrap_or l.next 0) l.sides;
}

abbrev pub decreases-loop-next : goal.decreases-loop-next
decreases-loop-next l = unwrap_or l.next 0
