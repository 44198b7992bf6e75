-- The table of the entries met that count: how it grows, and how a walk along a chain finds those of an owner and a name.
-- Assumes nothing.
use Rattle.std.proofs.Common.{◌≡◌, ℕ, suc, ◌+◌, ◌-◌, ◌*◌, ◌%◌, ◌<◌, ◌≤◌, Bool, true, false, ◌&&◌, eqb, ◌≢◌, List, length, get_or, set, replicate, sym, refl, ap, ◌∙◌, mod-lt, arith, length-set, get_or-set_other, get_or-set_same}
use lib.ListN.{length-replicate}
use Rattle.base.proofs.ChainLaws.{chains-more, chains-skip, chains-start, skip-goes, skip-starts, walk-starts}
use Rattle.base.proofs.Lists.{zeros-read}
use Rattle.base.proofs.Missing.{not-true}
use Rattle.base.proofs.Tests.{and_left, and_right, and_zero, bool_cases, both_ways, eq-eqb, eqb-eq}
use Rattle.base.specs.Chain.{OnChain}
use Rattle.blocks.specs.Entries.{nth}
use Rattle.blocks.specs.Owners.{owner_of}
use Rattle.blocks.specs.code.EntryTable.{Met, entry_bucket, entry_hash, noted, owned_as}
use Rattle.blocks.specs.declared.Entry.{Entry}

-- ---- buckets

hash-below : (most o l : ℕ) → 0 < most → entry_hash most o l < most
unfolding entry_hash
hash-below most o l h = mod-lt (31 * o + l) h

-- by the size of the table, or by a number that is the size
pub hash-is : (most k o l : ℕ) {a b : ℕ} → most ≡ k → 0 < most → a ≡ o → b ≡ l
    → ((31 * a + b) % k ≡ entry_hash most o l) × ((31 * a + b) % k < most)
unfolding entry_hash
hash-is most k o l {a} {b} s pos e f = rw (← s) (rw (e, f), mod-lt (31 * a + b) pos)

module _ (counts : Entry → Bool) (most : ℕ) (es : List Entry) where
  -- that of an entry that counts goes by its owner and its name, that of another is past the table
  counted-bucket : (k : ℕ) → counts (nth es k) ≡ true → entry_bucket counts most es k ≡ entry_hash most (owner_of es k) (nth es k).name
  unfolding entry_bucket
  counted-bucket k q = rw (entry_bucket, q)

  other-bucket : (k : ℕ) → counts (nth es k) ≡ false → entry_bucket counts most es k ≡ most + k
  unfolding entry_bucket
  other-bucket k q = rw (entry_bucket, q)

  -- an entry with a bucket of the table counts
  bucket-counted : (k : ℕ) → entry_bucket counts most es k < most → counts (nth es k) ≡ true
  bucket-counted k h = bool_cases (counts (nth es k)) (λ q. q) (λ q. absurd (omega (arith, other-bucket k q)))

  -- entry n has a bucket of its own past the table
  own-bucket : (n : ℕ) → 0 < most → counts (nth es n) ≡ false → (k : ℕ) → k < n → entry_bucket counts most es k ≢ entry_bucket counts most es n
  own-bucket n pos q k h =
      bool_cases (counts (nth es k))
      (λ p z. omega (arith, other-bucket n q, counted-bucket k p, hash-below most (owner_of es k) (nth es k).name pos))
      (λ p z. omega (arith, other-bucket n q, other-bucket k p))

-- ---- the table

-- of no entries
pub met_start : (counts : Entry → Bool) (es : List Entry) (most : ℕ) {t : List ℕ} → 0 < most → most ≤ 2017 → t ≡ replicate (most + most) 0
    → Met counts es most t 0
met_start counts es most {t} pos few e = record {
  few = few;
  below = pos;
  within = omega arith;
  size = ap length e ∙ length-replicate {A = ℕ} (most + most) 0;
  chains = chains-start (entry_bucket counts most es) (λ k. get_or t (most + k) 0) (λ b h. zeros-read (most + most) e b);
  unmet = λ k h. zeros-read (most + most) e (most + k);
}

module _ {counts : Entry → Bool} {es : List Entry} {most : ℕ} {t : List ℕ} {n m : ℕ} (M : Met counts es most t n) (is : m ≡ suc n)
    (there : m ≤ length es) (small : m < most) where
  -- an entry that does not count
  met-other : counts (nth es m) ≡ false → Met counts es most t m
  met-other q = record {
    few = M.few;
    below = small;
    within = there;
    size = M.size;
    chains = chains-skip M.chains is (omega (arith, other-bucket counts most es m q))
        (λ k lo hi. own-bucket counts most es m (omega arith) q k (omega arith)) (M.unmet m (omega arith));
    unmet = λ k h. M.unmet k (omega arith);
  }

  -- one that does, in front of its chain
  met-counted : {b : ℕ} → counts (nth es m) ≡ true → b ≡ entry_hash most (owner_of es m) (nth es m).name
      → Met counts es most (set (set t (most + m) (get_or t b 0)) b m) m
  met-counted {b} q e =
      let x = get_or t b 0 in
      let u = set t (most + m) x in
      let long : length u ≡ most + most = length-set t (most + m) x ∙ M.size in
      let inside : b < most = omega (arith, hash-below most (owner_of es m) (nth es m).name (omega arith)) in
      record {
        few = M.few;
        below = small;
        within = there;
        size = length-set u b m ∙ long;
        chains = chains-more M.chains is (λ k z. refl) (counted-bucket counts most es m q ∙ sym e) inside
            (λ k z. get_or-set_other u b (most + k) m 0 (λ y. omega arith) ∙ get_or-set_other t (most + m) (most + k) x 0 (λ y. omega arith))
            (get_or-set_other u b (most + m) m 0 (λ y. omega arith) ∙ get_or-set_same t (most + m) x 0 (omega (arith, M.size)))
            (λ r h z. get_or-set_other u b r m 0 z ∙ get_or-set_other t (most + m) r x 0 (λ y. omega arith))
            (get_or-set_same u b m 0 (omega arith));
        unmet = λ k h.
            get_or-set_other u b (most + k) m 0 (λ y. omega arith) ∙ get_or-set_other t (most + m) (most + k) x 0 (λ y. omega arith)
            ∙ M.unmet k (omega arith);
      }

  pub met-more : {e : Entry} {t' : List ℕ} → e ≡ nth es m → t' ≡ noted counts most t m e → Met counts es most t' m
  unfolding noted owner_of
  met-more {e} {t'} at f =
      rw (f, at) (bool_cases (counts (nth es m))
      (λ q. rw q (met-counted q refl))
      (λ q. rw q (met-other q)))

-- ---- a walk

module _ {counts : Entry → Bool} {es : List Entry} {most : ℕ} {t : List ℕ} {n : ℕ} (M : Met counts es most t n) (o l : ℕ) {b : ℕ}
    (at : b ≡ entry_hash most o l) where
  inside : b < most
  inside = omega (arith, hash-below most o l (omega (arith, M.below)))

  -- it begins at the last of the bucket
  pub met-starts : {k : ℕ} → k ≡ get_or t b 0 → OnChain (entry_bucket counts most es) b k n
  met-starts e = walk-starts M.chains b inside e

  -- what stands on it counts
  pub on-counts : {k : ℕ} → OnChain (entry_bucket counts most es) b k n → k ≢ 0 → counts (nth es k) ≡ true
  on-counts {k} S z = bucket-counted counts most es k (omega (arith, S.bucket z, inside))

  -- what goes by the entries of the owner and the name that count, and is the same before and after each other entry
  module _ {A : Type 0} (F : ℕ → A) (same : (k : ℕ) → (counts (nth es (suc k)) && owned_as o l (nth es (suc k))) ≡ false → F (suc k) ≡ F k) where
    -- an entry of another bucket
    skips : (k : ℕ) → eqb (entry_bucket counts most es (suc k)) b ≡ false → F (suc k) ≡ F k
    unfolding owner_of
    skips k out =
        same k
        (not-true (λ t.
        let x = nth es (suc k) in
        let key = and_right (counts x) (owned_as o l x) t in
        let own : o ≡ x.owner = eqb-eq (and_left (eqb o x.owner) (eqb l x.name) key) in
        let name : l ≡ x.name = eqb-eq (and_right (eqb o x.owner) (eqb l x.name) key) in
        let here : entry_bucket counts most es (suc k) ≡ b =
        counted-bucket counts most es (suc k) (and_left (counts x) (owned_as o l x) t) ∙ rw (← own, ← name) (sym at) in
        both_ways (eq-eqb here) out))

    pub walk_start : {k : ℕ} → k ≡ get_or t b 0 → F n ≡ F k
    walk_start e = skip-starts M.chains b inside e F skips

    pub walk-on : {k j : ℕ} → OnChain (entry_bucket counts most es) b k n → k ≢ 0 → owned_as o l (nth es k) ≡ false → j ≡ get_or t (most + k) 0
        → F k ≡ F j
    walk-on {k} S z other e =
        let up : suc (k - 1) ≡ k = omega arith in
        let here : (counts (nth es (suc (k - 1))) && owned_as o l (nth es (suc (k - 1)))) ≡ false = rw (up, other) (and_zero (counts (nth es k))) in
        let down : F k ≡ F (k - 1) = rw up at (same (k - 1) here) in
        down ∙ skip-goes M.chains b S z e F skips
