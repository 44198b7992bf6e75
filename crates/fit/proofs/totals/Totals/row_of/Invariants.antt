-- `row_of` meets its contract: what the whole search finds is what the rest of it finds.
use Rattle.base.specs.Chain.{last_where}
use Rattle.fit.proofs.index.BucketWalk.{Walk}
use Rattle.fit.specs.code.Rows.{pair_bucket, pairs_of}
use Rattle.fit.proofs.totals.Totals.row_of.Given as goal

abbrev pub invariant-loop-r : goal.invariant-loop-r
invariant-loop-r l =
    let rows = l.self.rows.now in
    Walk (λ j. pair_bucket l.self.most (pairs_of rows j)) (pair_bucket l.self.most l.pair) l.self.used (last_where (pairs_of rows) l.pair) (last_where (pairs_of rows) l.pair l.self.used)
    l.self.links.now l.self.most l.r-iterator.table.now l.r-iterator.most l.r-iterator.next
