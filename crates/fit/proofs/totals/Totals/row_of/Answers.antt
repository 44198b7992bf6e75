use Prim.Native.Nat.{◌<◌, ℕ}
use lib.ListN.{get_or, length}
use mathlib.Core.Path.{◌∙◌, ◌≡◌, ap, refl, sym}
use native.Mathlib.Omega.{arith}
use Rattle.base.proofs.ChainLaws.{last-here}
use Rattle.base.specs.Chain.{last_where}
use Rattle.fit.proofs.index.BucketLaws.{masked_is}
use Rattle.fit.proofs.index.BucketWalk.{falls_bucket, walk-at, walk-first, walk-on, walk-tells}
use Rattle.fit.proofs.totals.RowLaws.{pair-below, pair-bucket, pair-passes, pair-skips}
use Rattle.fit.specs.code.Rows.{pair_bucket, pairs_of}
use Rattle.fit.proofs.totals.Totals.row_of.Goals.{In-Some}
use Rattle.fit.proofs.totals.Totals.row_of.Goals as goal

pub of_bucket-r-items-requires : goal.of_bucket-r-items-requires
of_bucket-r-items-requires c =
    let t = c.args.self.now in
    falls_bucket t.kept.index (masked_is t.most c.args.owner 7 c.args.l.0 (omega (arith, t.kept.index.below)) t.masked c.masked.ensures).1

pub loop-r-init : goal.loop-r-init
loop-r-init c =
    let t = c.args.self.now in
    let p = c.pair_of-pair in
    let told = masked_is t.most c.args.owner 7 c.args.l.0 (omega (arith, t.kept.index.below)) t.masked c.masked.ensures in
    let bucket : pair_bucket t.most p.result ≡ c.masked.result =
    ap (pair_bucket t.most) p.ensures.0 ∙ pair-bucket t.most c.args.owner c.args.l.0 p.ensures.2 ∙ sym told.0 in
    let b = c.of_bucket-r-items.ensures in
    let first = b.2 ∙ ap (λ (x : ℕ). get_or t.links.now x 0) (sym bucket) in
    let below = pair-below t.most p.result (omega (arith, t.kept.index.below)) in
    rw c.into_iter-r-iterator.ensures.into_iter_gives
    (walk-first t.kept.index (pair_bucket t.most p.result) (last_where (pairs_of t.rows.now) p.result) (pair-skips t.rows.now t.most p.result) refl below b.0 b.1 first)

-- the row that the walk comes to is one of the table
below : (c : In-Some) → c.in-Some.r < length c.args.self.now.rows.now
below c =
    let t = c.args.self.now in
    omega (arith, (walk-at c.loop-r.invariant c.in-Some.ensures.steps).bound, t.kept.index.below, t.kept.room)

pub bounds-self-r : goal.bounds-self-r
bounds-self-r c = below (goal.at.bounds-self-r c).In-Some

pub loop-r-preserved : goal.loop-r-preserved
loop-r-preserved c =
    let t = c.args.self.now in
    let s = c.in-Some.ensures.steps in
    let pair = c.pair_of-pair.result in
    walk-on t.kept.index (pair_bucket t.most pair) (last_where (pairs_of t.rows.now) pair) (pair-skips t.rows.now t.most pair) c.loop-r.invariant s
    (pair-passes t.rows.now pair c.in-Some.r s.0.1 (λ y. c.if-pair_in-pair.false (c.pair_in.ensures ∙ y)))

pub returns : goal.returns
unfolding last_where
returns c =
    let p = c.pair_of-pair in
    (rw (← p.ensures.0) (c.loop-r.invariant.tells ∙ rw c.in-None.ensures.steps.0), p.ensures.2)

pub returns-then-pair_in-pair : goal.returns-then-pair_in-pair
returns-then-pair_in-pair c =
    let p = c.pair_of-pair in
    let s = c.in-Some.ensures.steps in
    let here = last-here (pairs_of c.args.self.now.rows.now) p.result c.in-Some.r s.0.1 (sym c.pair_in.ensures ∙ c.if-pair_in-pair.true) in
    ((s.0.1, below (goal.at.returns-then-pair_in-pair c).In-Some, sym (rw (← p.ensures.0) (walk-tells c.loop-r.invariant s ∙ here))), p.ensures.2)
