-- The rows of the table of totals: how one is found by its owner and link, and how the table grows.
-- Assumes nothing.
use Prim.Native.Nat.{◌%◌, ◌*◌, ◌+◌, ◌-◌, ◌/◌, ◌<◌, ◌≤◌, suc, zero, ℕ}
use lib.Dec.{eqb}
use lib.ListN.{get_or, length, length-set, set}
use lib.Seq.{get_or-set_other, get_or-set_same}
use mathlib.Core.Bool.{false}
use mathlib.Core.List.{List}
use mathlib.Core.Logic.{◌≢◌}
use mathlib.Core.Path.{◌∙◌, ◌≡◌, ap, refl, sym}
use native.Mathlib.Numerals.{add-one, sub-one}
use native.Mathlib.Omega.{arith}
use Rattle.base.proofs.ChainLaws.{chains-same, last_none, last_on}
use Rattle.base.proofs.Tests.{bool_cases, both_ways, eq-cases, eq-eqb, eqb-eq, eqb-ne, lt-cases, ne_eqb}
use Rattle.base.specs.Chain.{last_where}
use Rattle.blocks.specs.Entries.{nth}
use Rattle.blocks.specs.Single.{items_up_to}
use Rattle.blocks.specs.declared.Entry.{Entry}
use Rattle.fit.proofs.index.BucketLaws.{hash-below}
use Rattle.fit.proofs.index.BucketWalk.{index-more}
use Rattle.fit.proofs.totals.TotalsLaws.{totals-found, totals-new, totals-other, without-row}
use Rattle.fit.specs.Totals.{GroupAt, RowAt, TotalsOf, items_in}
use Rattle.fit.specs.code.Index.{chained, hash_of}
use Rattle.fit.specs.code.Rows.{Rows, Small, empty_row, pair_bucket, pair_in, pair_of, pairs_of}

-- ---- pairs

pub pair-bucket : (most o l : ℕ) → l < 65536 → pair_bucket most (pair_of o l) ≡ hash_of most o 7 l
unfolding pair_bucket
pair-bucket most o l h =
    let a : pair_of o l / 65536 ≡ o = omega arith in
    let b : pair_of o l % 65536 ≡ l = omega arith in
    rw (pair_bucket, a, b)

-- the bucket of an owner and a link is that of their pair
pub bucket-pair : (most o l : ℕ) {b o' l' : ℕ} → b ≡ hash_of most o 7 l → o ≡ o' → l ≡ l' → l < 65536 → b ≡ pair_bucket most (pair_of o' l')
bucket-pair most o l e a b small = rw (← a, ← b) (e ∙ sym (pair-bucket most o l small))

pub pair-below : (most p : ℕ) → 0 < most → pair_bucket most p < most
unfolding pair_bucket
pair-below most p pos = hash-below most (p / 65536) 7 (p % 65536) pos

-- a row of another bucket is of another pair
pub pair-skips : (rows : List ℕ) (most p i : ℕ) → eqb (pair_bucket most (pairs_of rows (suc i))) (pair_bucket most p) ≡ false
    → last_where (pairs_of rows) p (suc i) ≡ last_where (pairs_of rows) p i
unfolding last_where
pair-skips rows most p i q =
    bool_cases (eqb (pairs_of rows (suc i)) p)
    (λ y. both_ways (eq-eqb (ap (pair_bucket most) (eqb-eq y))) q)
    (λ n. rw (last_where, n))

-- a row of another pair is passed
pub pair-passes : (rows : List ℕ) (p r : ℕ) → r ≢ 0 → pairs_of rows r ≢ p → last_where (pairs_of rows) p r ≡ last_where (pairs_of rows) p (r - 1)
unfolding last_where
pair-passes rows p zero z other = absurd (z refl)
pair-passes rows p (suc r) z other = rw (last_where, ne_eqb other, sub-one)

-- the row of a pair is that of its owner and link
pub pair_row : (rows : List ℕ) (used o l r : ℕ) → l < 65536 → 1 ≤ r → r ≤ used → pairs_of rows r ≡ pair_of o l → RowAt rows used o l r
pair_row rows used o l r h lo hi e = record { from = lo; to = hi; owner = omega (arith, e); link = omega (arith, e) }

pub row-pair : {rows : List ℕ} {used o l r : ℕ} → RowAt rows used o l r → pairs_of rows r ≡ pair_of o l
row-pair w = omega (arith, w.owner, w.link)

-- ---- what a search finds

module _ (rows : List ℕ) (used o l : ℕ) (small : l < 65536) {r : ℕ} (found : r ≡ last_where (pairs_of rows) (pair_of o l) used) where
  pub found-row : {o' l' : ℕ} → o ≡ o' → l ≡ l' → r ≢ 0 → RowAt rows used o' l' r
  found-row a b z =
      let f = last_on (pairs_of rows) (pair_of o l) used found in rw (← a, ← b) (pair_row rows used o l r small (omega arith) f.bound (f.bucket z))

  pub found_none : {o' l' : ℕ} → o ≡ o' → l ≡ l' → r ≡ 0 → (i : ℕ) → RowAt rows used o' l' i → ⊥
  found_none a b z i w = eqb-ne (last_none (pairs_of rows) (pair_of o l) used (sym found ∙ z) i w.from w.to) (row-pair w ∙ rw (a, b))

  -- the items of an owner by a link
  module _ {es : List Entry} {n : ℕ} (T : TotalsOf es n rows used) where
    pub none-total : r ≡ 0 → 0 ≡ items_up_to es o l n
    none-total z = sym (without-row T o l (found_none refl refl z))

    pub row-total : {x m : ℕ} → r ≢ 0 → x ≡ get_or rows r 0 → m ≡ items_in x → m ≡ items_up_to es o l n
    row-total z e f = f ∙ ap items_in e ∙ T.number r o l (found-row refl refl z)

-- ---- the rows after an entry: their pairs, and how they are found

module _ {most : ℕ} {rows links : List ℕ} {used : ℕ} (R : Rows most rows links used) where
  -- a row gets items
  pub rows-found : (y : ℕ) {r : ℕ} {rows' : List ℕ} → r ≤ used → pair_in y ≡ pairs_of rows r → rows' ≡ set rows r y → Rows most rows' links used
  rows-found y {r} h e is =
      let same : (j : ℕ) → pairs_of (set rows r y) j ≡ pairs_of rows j =
      λ j. eq-cases j r
      (λ q. rw q (ap pair_in (get_or-set_same rows r y 0 (omega (arith, R.room, R.index.below))) ∙ e))
      (λ q. ap pair_in (get_or-set_other rows r j y 0 q)) in
      rw is (record {
        room = length-set rows r y ∙ R.room;
        index = record {
          sized = R.index.sized;
          below = R.index.below;
          size = R.index.size;
          chains = chains-same (λ j. ap (pair_bucket most) (same j)) R.index.chains;
        };
      })

  -- a row is new
  pub rows_new : (y : ℕ) {p b : ℕ} {rows' links' : List ℕ} → used + 1 < most → pair_in y ≡ p → b ≡ pair_bucket most p → rows' ≡ set rows (used + 1) y
      → links' ≡ chained links most (used + 1) b → Rows most rows' links' (used + 1)
  rows_new y {p} {b} h e q is is' =
      let new : pairs_of (set rows (used + 1) y) (used + 1) ≡ p = ap pair_in (get_or-set_same rows (used + 1) y 0 (omega (arith, R.room))) ∙ e in
      rw is (record {
        room = length-set rows (used + 1) y ∙ R.room;
        index = index-more R.index (omega arith) h (λ j z. ap (λ (x : ℕ). pair_bucket most (pair_in x)) (get_or-set_other rows (used + 1) j y 0 z))
            (ap (pair_bucket most) new ∙ sym q) (rw q (pair-below most p (omega arith))) is';
      })

-- no row gets more than its items
module _ {n : ℕ} {rows : List ℕ} {used : ℕ} (S : Small n rows used) where
  pub small-other : Small (n + 1) rows used
  small-other = record { within = omega (arith, S.within); items = λ r lo hi. omega (arith, S.items r lo hi) }

  pub small-set : (y : ℕ) {r used' : ℕ} {rows' : List ℕ} → r < length rows → (used ≤ used') → used' ≤ used + 1 → (used < used' → r ≡ used + 1)
      → items_in y ≤ 65536 * (n + 1) → rows' ≡ set rows r y → Small (n + 1) rows' used'
  small-set y {r} {used'} there least most only few is = rw is (record {
    within = omega (arith, S.within);
    items = λ j lo hi. eq-cases j r
        (λ q. rw (q, get_or-set_same rows r y 0 there) few)
        (λ q. rw (get_or-set_other rows r j y 0 q)
        (lt-cases used j (λ m. absurd (q (omega (arith, only (omega arith))))) (λ m. omega (arith, S.items j lo m))));
  })

-- ---- the table after an entry

module _ {es : List Entry} {n : ℕ} {rows : List ℕ} {used : ℕ} {e : Entry} (at : e ≡ nth es (n + 1)) (T : TotalsOf es n rows used) where
  entry-at : nth es (suc n) ≡ e
  entry-at = sym (rw add-one at at)

  pub enter-other : e.kind ≢ 7 → TotalsOf es (n + 1) rows used
  enter-other k = rw add-one (totals-other T (λ q. k (ap (λ (x : Entry). x.kind) (sym entry-at) ∙ q)))

  module _ (k : e.kind ≡ 7) (small : e.name < 65536) (few : e.number < 65536) where
    here : GroupAt es (suc n) e.owner e.name (suc n)
    here = record {
      from = omega arith;
      to = omega arith;
      kind = ap (λ (x : Entry). x.kind) entry-at ∙ k;
      owner = ap (λ (x : Entry). x.owner) entry-at;
      link = ap (λ (x : Entry). x.name) entry-at;
    }

    number_at : (nth es (suc n)).number ≡ e.number
    number_at = ap (λ (x : Entry). x.number) entry-at

    pub enter-found : {r y : ℕ} {rows' : List ℕ} → RowAt rows used e.owner e.name r → r < length rows → items_in (get_or rows r 0) + 65536 < 4294967296
        → y ≡ get_or rows r 0 + (e.number + 1) → rows' ≡ set rows r y → TotalsOf es (n + 1) rows' used
    enter-found {r} {y} row there room sum is =
        rw (is, add-one) (totals-found T here row there y (omega (arith, row.owner)) (omega (arith, row.link)) (omega (arith, number_at)))

    pub enter-new : {y : ℕ} {rows' : List ℕ} → ((r : ℕ) → RowAt rows used e.owner e.name r → ⊥) → used + 1 < length rows
        → y ≡ empty_row (pair_of e.owner e.name) + (e.number + 1) → rows' ≡ set rows (used + 1) y → TotalsOf es (n + 1) rows' (used + 1)
    enter-new {y} none there sum is =
        rw (is, add-one, add-one) (totals-new T here none (omega arith) y (omega arith) (omega arith) (omega (arith, number_at)))
