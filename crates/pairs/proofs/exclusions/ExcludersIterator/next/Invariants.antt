-- `next` gives what stands beside the property under the next number that names it: the numbers passed name others.
use Rattle.std.proofs.Common.{◌≡◌, unwrap_or}
use Rattle.pairs.specs.code.Index.{partners}
use Rattle.pairs.proofs.exclusions.ExcludersIterator.next.Given as goal

abbrev pub invariant-loop-self : goal.invariant-loop-self
invariant-loop-self l = record {
  all_same : l.self.all ≡ l.initial.self.all;
  of_same : l.self.of ≡ l.initial.self.of;
  left : partners l.initial.self.all.pairs.now l.initial.self.of.0 (unwrap_or l.initial.self.next 0) ≡ partners l.self.all.pairs.now l.self.of.0 (unwrap_or l.self.next 0);
}

abbrev pub decreases-loop-self : goal.decreases-loop-self
decreases-loop-self l = unwrap_or l.self.next 0
