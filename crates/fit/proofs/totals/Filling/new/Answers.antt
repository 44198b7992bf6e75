-- `new` meets its contract: no row is chained.
use Prim.Native.Nat.{ℕ}
use lib.ListN.{length-replicate, replicate}
use mathlib.Core.Path.{ap}
use Rattle.fit.proofs.index.BucketWalk.{index-starts}
use Rattle.fit.proofs.totals.Filling.new.Goals as goal

pub invariant_of-result : goal.invariant_of-result
invariant_of-result g c = record {
  kept = record {
    room = length-replicate {A = ℕ} g.row.MOST 0;
    index = index-starts g.row.MOST _ c.requires.0 c.requires.1 (ap (λ (x : ℕ). replicate x 0) c.requires.2);
  };
}
