-- The rows of a tree of at most 33 levels, as entries: each owner stands earlier and may own, and no entry is deeper than 32.
-- Assumes nothing.
use Prim.Native.Nat.{◌+◌, ◌<◌, ◌≤◌, suc, zero, ℕ}
use lib.Dec.{eqb, ltb}
use lib.ListN.{get_or, length, length-map}
use mathlib.Core.Bool.{◌&&◌, true}
use mathlib.Core.List.{List, [], ◌∷◌, map}
use mathlib.Core.Logic.{◌≢◌}
use mathlib.Core.Path.{◌∙◌, ◌≡◌, refl}
use native.Mathlib.Nat.{add-suc, add-zero, suc-add}
use native.Mathlib.Omega.{arith}
use native.Mathlib.Numerals.{one-add}
use Rattle.base.proofs.Tests.{and_both, eq-cases, eq-eqb, le-leb, lt-ltb, ne_eqb, or_left, or_right}
use Rattle.blocks.proofs.Refusing.LevelLaws.{depth-top, depth-under}
use Rattle.blocks.specs.Entries.{form_ok, nth, owning_kind, zero_entry}
use Rattle.blocks.specs.Owners.{depth_of, depth_ok, level_of, owner_of, owner_ok}
use Rattle.blocks.specs.Promise.{Legal}
use Rattle.blocks.specs.declared.Entry.{Entry}
use Rattle.blocks.specs.declared.Schema.{Schema}
use Rattle.logic.proofs.TreeRows.LayoutLaws.{write-early}
use Rattle.logic.specs.Layout.{Queue, done, job, later, lay, weight, write}
use Rattle.logic.specs.Size.{levels, measure}
use Rattle.logic.specs.Tree.{Early, Row, Tree, end, leaf, leaf_row, node, node_row, row_owner}

-- ---- levels of owners

module _ (σ : Schema) (es : List Entry) (early : (n : ℕ) → 1 ≤ n → owner_of es n < n) where
  -- an entry's owner may own, and what it owns is not too deep
  record Levelled (n : ℕ) : Type 0 where
    some : 1 ≤ level_of σ es (owner_of es n)
    few : level_of σ es (owner_of es n) ≤ 33

  -- a level above 0 is that of the top, or of an entry of the kind that owns, and tells its depth
  level-owns : (o : ℕ) → 1 ≤ level_of σ es o → o ≢ 0 → ((nth es o).kind ≡ owning_kind σ) × (level_of σ es o ≡ 2 + depth_of es o)
  unfolding level_of
  level-owns zero h z = absurd (z refl)
  level-owns (suc k) h z =
      eq-cases (nth es (suc k)).kind (owning_kind σ)
      (λ q. (q, rw (eq-eqb q)))
      (λ q. let y : 1 ≤ 0 = rw (ne_eqb q) at h in absurd (omega arith))

  -- the depth of what an owner owns
  depth-level : (n : ℕ) → 1 ≤ n → 1 ≤ level_of σ es (owner_of es n) → level_of σ es (owner_of es n) ≡ suc (depth_of es n)
  unfolding level_of
  depth-level n lo h =
      eq-cases (owner_of es n) 0
      (λ z. rw (z, depth-top es n z))
      (λ z. (level-owns (owner_of es n) h z).1 ∙ omega (arith, depth-under es n (λ k a b. early k a) (early n lo) z))

  -- the level of an entry that may own
  level-next : (n : ℕ) → 1 ≤ n → (nth es n).kind ≡ owning_kind σ → 1 ≤ level_of σ es (owner_of es n) → level_of σ es n ≡ suc (level_of σ es (owner_of es n))
  unfolding level_of
  level-next zero lo k h = absurd (omega arith)
  level-next (suc n) lo k h = rw (depth-level (suc n) lo h) (rw (eq-eqb k) (omega arith))

  owner-ok : (n : ℕ) → 1 ≤ n → Levelled n → owner_ok σ es n ≡ true
  unfolding owner_ok
  owner-ok n lo h =
      eq-cases (owner_of es n) 0
      (λ z. or_left (ltb (owner_of es n) n && eqb (nth es (owner_of es n)).kind (owning_kind σ)) (eq-eqb z))
      (λ z. or_right (eqb (owner_of es n) 0) (and_both (lt-ltb (early n lo)) (eq-eqb (level-owns (owner_of es n) h.some z).0)))

  depth-ok : (n : ℕ) → 1 ≤ n → Levelled n → depth_ok es n ≡ true
  unfolding depth_ok
  depth-ok n lo h = let d : depth_of es n ≤ 32 = omega (arith, depth-level n lo h.some, h.few) in le-leb d

-- ---- rows as entries

-- an entry for each row: it has the row's owner, and one that may own others has the kind that does
pub record EntryRows {A B : Type 0} (σ : Schema) (entry : Row A B → Entry) : Type 0 where
  pub owner : (r : Row A B) → (entry r).owner ≡ row_owner r
  pub owning : (o : ℕ) (b : B) → (entry (node_row o b)).kind ≡ owning_kind σ

module _ {A B : Type 0} {σ : Schema} {entry : Row A B → Entry} (rows : EntryRows σ entry) where
  -- owners stand earlier, and the zero entry past the end has owner 0
  early-entries : (k : ℕ) (rs : List (Row A B)) → 1 ≤ k → Early k rs → (i : ℕ) → (get_or (map entry rs) i zero_entry).owner < k + i
  early-entries k [] lo h i = omega arith
  early-entries k (r ∷ rs) lo h zero = rw (rows.owner r) (omega (arith, h.0))
  early-entries k (r ∷ rs) lo h (suc i) = omega (arith, early-entries (suc k) rs (omega arith) h.1 i)

  module _ (es : List Entry) (early : (n : ℕ) → 1 ≤ n → owner_of es n < n) where
    -- the jobs' owners may own, and what they own is not too deep
    abbrev Fit : Queue (Tree A B) → Type 0
    Fit done = Unit {0}
    Fit (job o t q) = (1 ≤ level_of σ es o) × (level_of σ es o + levels t ≤ 34) × Fit q

    fit-later : (q : Queue (Tree A B)) (k : ℕ) (t : Tree A B) → Fit q → 1 ≤ level_of σ es k → level_of σ es k + levels t ≤ 34 → Fit (later q k t)
    unfolding later
    fit-later done k t h a b = (a, b, tt)
    fit-later (job o t' q) k t h a b = (h.0, h.1, fit-later q k t h.2 a b)

    -- the owner of the entry that stands at k
    owner_here : (k : ℕ) (r : Row A B) → nth es (k + 0) ≡ entry r → owner_of es k ≡ row_owner r
    unfolding owner_of
    owner_here k r e = let f : nth es k ≡ entry r = rw add-zero at e in rw (owner_of, f) (rows.owner r)

    lay-levelled : (f k : ℕ) (q : Queue (Tree A B)) → 1 ≤ k → ((i : ℕ) → nth es (k + i) ≡ get_or (map entry (lay f k q)) i zero_entry) → Fit q
        → (i : ℕ) → i < length (lay f k q) → Levelled σ es early (k + i)
    unfolding lay measure
    lay-levelled zero k q lo at h i l = absurd (omega arith)
    lay-levelled (suc f) k done lo at h i l = absurd (omega arith)
    lay-levelled (suc f) k (job o end q) lo at h i l = lay-levelled f k q lo at h.2 i l
    lay-levelled (suc f) k (job o (leaf a r) q) lo at h zero l =
        let e : owner_of es k ≡ o = owner_here k (leaf_row o a) (at 0) in
        rw add-zero (record { some = rw e h.0; few = rw e (omega (arith, h.1)) })
    lay-levelled (suc f) k (job o (leaf a r) q) lo at h (suc i) l =
        rw (add-suc, ← suc-add)
        (lay-levelled f (suc k) (job o r q) (omega arith) (λ j. rw (suc-add, ← add-suc) (at (suc j))) (h.0, omega (arith, h.1), h.2) i (omega arith))
    lay-levelled (suc f) k (job o (node b s r) q) lo at h zero l =
        let e : owner_of es k ≡ o = owner_here k (node_row o b) (at 0) in
        rw add-zero (record { some = rw e h.0; few = rw e (omega (arith, h.1)) })
    lay-levelled (suc f) k (job o (node b s r) q) lo at h (suc i) l =
        let e : owner_of es k ≡ o = owner_here k (node_row o b) (at 0) in
        let n : nth es k ≡ entry (node_row o b) = rw add-zero at (at 0) in
        let v : level_of σ es k ≡ suc (level_of σ es o) =
        level-next σ es early k lo (rw n (rows.owning o b)) (rw e h.0) ∙ rw e in
        rw (add-suc, ← suc-add)
        (lay-levelled f (suc k) (job o r (later q k s)) (omega arith) (λ j. rw (suc-add, ← add-suc) (at (suc j)))
        (h.0, omega (arith, h.1), fit-later q k s h.2 (omega arith) (omega (arith, h.1))) i (omega arith))

  -- ---- a whole tree

  -- entry n of those written
  entry-written : (rs : List (Row A B)) (i : ℕ) → nth (map entry rs) (1 + i) ≡ get_or (map entry rs) i zero_entry
  unfolding nth
  entry-written rs i = rw one-add

  early-written : (t : Tree A B) (n : ℕ) → 1 ≤ n → owner_of (map entry (write t)) n < n
  unfolding owner_of nth
  early-written t zero lo = absurd (omega arith)
  early-written t (suc n) lo = omega (arith, early-entries 1 (write t) (omega arith) (write-early t) n)

  module _ (t : Tree A B) (small : levels t ≤ 33) where
    abbrev written : List Entry
    written = map entry (write t)

    levelled : (n : ℕ) → 1 ≤ n → n ≤ length written → Levelled σ written (early-written t) n
    unfolding write level_of
    levelled zero lo hi = absurd (omega arith)
    levelled (suc i) lo hi =
        let size : length written ≡ length (write t) = length-map (write t) entry in
        rw one-add at
        (lay-levelled written (early-written t) (weight t) 1 (job 0 t done) (omega arith) (entry-written (write t)) (omega arith, omega arith, tt) i (omega arith))

    form-ok : ((i : ℕ) → i < length (write t) → form_ok σ (get_or written i zero_entry) ≡ true) → (n : ℕ) → 1 ≤ n → n ≤ length written
        → form_ok σ (nth written n) ≡ true
    unfolding nth
    form-ok forms zero lo hi = absurd (omega arith)
    form-ok forms (suc i) lo hi = forms i (omega (arith, length-map (write t) entry))

    -- the rows of a tree of at most 33 levels are legal entries, if their form is allowed
    pub write-legal : ((i : ℕ) → i < length (write t) → form_ok σ (get_or written i zero_entry) ≡ true) → Legal σ written
    write-legal forms =
        record {
          form = form-ok forms;
          owner = λ n lo hi. owner-ok σ written (early-written t) n lo (levelled n lo hi);
          depth = λ n lo hi. depth-ok σ written (early-written t) n lo (levelled n lo hi);
        }
