-- The entries of a place in walking order, one after the other: what is left of a place from an entry on.
-- Assumes nothing.
use Rattle.std.proofs.Common.{◌≡◌, ℕ, zero, suc, ◌+◌, ◌-◌, ◌<◌, ◌≤◌, Bool, true, false, not, eqb, ◌≢◌, List, ◌∷◌, ◌++◌, map, length, set, Option, Some, None, refl, sym, ap, ◌∙◌, arith}
use native.Mathlib.Numerals.{one-add}
use mathlib.Core.List.{map-append}
use Rattle.base.proofs.Lists.{listed, listed-eq, map-listed}
use Rattle.base.proofs.SearchLaws.{first-least, first-none}
use Rattle.base.proofs.StoresLaws.{stored-then}
use Rattle.base.proofs.Tests.{bool_cases, eq-cases, eq-eqb, eqb-eq, ne_eqb, true_of_not}
use Rattle.base.specs.Keys.{unless_zero}
use Rattle.base.specs.Stores.{stored}
use Rattle.blocks.proofs.Refusing.Legal.{owner-earlier, owner-kind}
use Rattle.blocks.specs.Entries.{nth, zero_entry}
use Rattle.blocks.specs.Owners.{owner_of}
use Rattle.blocks.specs.Promise.{Legal}
use Rattle.blocks.specs.declared.Entry.{Entry}
use Rattle.blocks.specs.declared.Schema.TheVariants.{Description}
use Rattle.logic.specs.Tree.{Row, Tree, end, leaf, node, row_owner, tree}
use Rattle.places.specs.Owned.{next_of, owned_after}
use Rattle.stored.specs.Walked.{bare, entries_under, entry_row, leaf_at, node_at, walked}
use Rattle.stored.specs.code.Steps.{mark_packed}

-- the entries of a list are those of its numbers
pub nth-listed : (es : List Entry) → listed (nth es) 1 (length es) ≡ es
unfolding nth
nth-listed es = listed-eq (nth es) 1 zero_entry es (λ k h. rw one-add refl)

module _ (es : List Entry) where
  -- the row of entry n
  unfoldable pub row_at : ℕ → Row Entry Entry
  row_at n = entry_row (nth es n)

  -- what o owns from entry n on
  unfoldable pub part : ℕ → ℕ → Tree Entry Entry
  part o n = tree n (listed row_at n (suc (length es) - n)) o

  pub rows-listed : map entry_row es ≡ listed row_at 1 (length es)
  unfolding row_at
  rows-listed = ap (map entry_row) (sym (nth-listed es)) ∙ map-listed entry_row (nth es) 1 (length es)

  pub part-all : (o : ℕ) → entries_under es o ≡ part o 1
  unfolding entries_under part
  part-all o = let e : suc (length es) - 1 ≡ length es = omega arith in rw (part, e, rows-listed) refl

  pub part-end : (o n : ℕ) → length es < n → part o n ≡ end
  unfolding part listed tree
  part-end o n h = let e : suc (length es) - n ≡ 0 = omega arith in rw (part, e) refl

  row-owner : (n : ℕ) → row_owner (row_at n) ≡ owner_of es n
  unfolding row_at entry_row owner_of
  row-owner n = bool_cases (eqb (nth es n).kind 5) (λ q. rw (row_at, entry_row, q) refl) (λ q. rw (row_at, entry_row, q) refl)

  module _ (o n : ℕ) (le : n ≤ length es) where
    pub part-gone : owner_of es n ≢ o → part o n ≡ part o (suc n)
    unfolding part listed tree row_at entry_row owner_of
    part-gone z =
        let e : suc (length es) - n ≡ suc (suc (length es) - suc n) = omega arith in
        let w : eqb o (nth es n).owner ≡ false = ne_eqb (λ q. z (sym q)) in
        bool_cases (eqb (nth es n).kind 5) (λ q. rw (part, e, listed, row_at, entry_row, q, w) refl) (λ q. rw (part, e, listed, row_at, entry_row, q, w) refl)

    pub part-leaf : owner_of es n ≡ o → (nth es n).kind ≢ 5 → part o n ≡ leaf (bare (nth es n)) (part o (suc n))
    unfolding part listed tree row_at entry_row owner_of
    part-leaf z k =
        let e : suc (length es) - n ≡ suc (suc (length es) - suc n) = omega arith in
        let w : eqb o (nth es n).owner ≡ true = eq-eqb (sym z) in
        rw (part, e, listed, row_at, entry_row, ne_eqb k, w) refl

    part-node-as : owner_of es n ≡ o → (nth es n).kind ≡ 5 → part o n ≡ node (bare (nth es n)) (part n (suc n)) (part o (suc n))
    unfolding part listed tree row_at entry_row owner_of
    part-node-as z k =
        let e : suc (length es) - n ≡ suc (suc (length es) - suc n) = omega arith in
        let w : eqb o (nth es n).owner ≡ true = eq-eqb (sym z) in
        rw (part, e, listed, row_at, entry_row, eq-eqb k, w) refl

  -- entries of other owners are passed
  pub part-skip : (o n left : ℕ) → n + left ≤ suc (length es) → ((k : ℕ) → n ≤ k → k < n + left → owner_of es k ≢ o) → part o n ≡ part o (n + left)
  part-skip o n zero h f = ap (part o) (omega arith)
  part-skip o n (suc left) h f =
      part-gone o n (omega arith) (f n (omega arith) (omega arith))
      ∙ part-skip o (suc n) left (omega arith) (λ k a b. f k (omega arith) (omega arith))
      ∙ ap (part o) (omega arith)

  module _ (L : Legal Description es) where
    -- what an entry owns stands after it
    pub part-own : (n : ℕ) → 1 ≤ n → n ≤ length es → entries_under es n ≡ part n (suc n)
    part-own n lo hi =
        part-all n ∙ part-skip n 1 n (omega arith) (λ k a b q. let w = owner-earlier L k a (omega arith) in omega arith) ∙ ap (part n) (one-add n)

    pub part-node : (o n : ℕ) → 1 ≤ n → n ≤ length es → owner_of es n ≡ o → (nth es n).kind ≡ 5
        → part o n ≡ node (bare (nth es n)) (entries_under es n) (part o (suc n))
    part-node o n lo hi z k = part-node-as o n hi z k ∙ ap (λ (s : Tree Entry Entry). node (bare (nth es n)) s (part o (suc n))) (sym (part-own n lo hi))

    -- an entry that is no 'every' owns nothing
    pub part-leaf-own : (n : ℕ) → 1 ≤ n → n ≤ length es → (nth es n).kind ≢ 5 → part n (suc n) ≡ end
    part-leaf-own n lo hi k =
        part-skip n (suc n) (length es - n) (omega arith)
        (λ m a b q. k (rw q at (owner-kind L m (omega arith) (omega arith) (λ z. omega arith))))
        ∙ part-end n (suc n + (length es - n)) (omega arith)

  -- ---- the next of a place

  -- what is left of a place of o, from the entry that comes next
  abbrev pub left_from : ℕ → Option ℕ → Tree Entry Entry
  left_from o None = end
  left_from o (Some n) = part o n

  -- it is an entry of o
  abbrev pub Next : ℕ → Option ℕ → Type 0
  Next o None = Unit {0}
  Next o (Some n) = (1 ≤ n) × (n ≤ length es) × (owner_of es n ≡ o)

  module _ (o n : ℕ) (le : n ≤ length es) where
    after-none : owned_after es o n ≡ 0 → part o (suc n) ≡ end
    unfolding owned_after
    after-none z =
        part-skip o (suc n) (length es - n) (omega arith)
        (λ k a b q. let t = first-none (λ k. not (eqb (owner_of es k) o)) (suc n) (length es - n) (omega arith) z k a b in let y : true ≡ false = sym t ∙ rw (eq-eqb q) refl in let c : ◌≡◌ {A = ℕ} 0 1 = cc in absurd (omega arith))
        ∙ part-end o (suc n + (length es - n)) (omega arith)

    after-some : owned_after es o n ≢ 0
        → (part o (suc n) ≡ part o (owned_after es o n)) × ((n < owned_after es o n) × (owned_after es o n ≤ length es) × (owner_of es (owned_after es o n) ≡ o))
    unfolding owned_after
    after-some z =
        let test : ℕ → Bool = λ k. not (eqb (owner_of es k) o) in
        let F = first-least test (suc n) (length es - n) {k = owned_after es o n} refl z in
        let k = owned_after es o n in (
          part-skip o (suc n) (k - suc n) (omega (arith, F.high))
              (λ j a b q. let t = F.before j a (omega (arith, F.low)) in let y : true ≡ false = sym t ∙ rw (eq-eqb q) refl in let c : ◌≡◌ {A = ℕ} 0 1 = cc in absurd (omega arith))
              ∙ ap (part o) (omega (arith, F.low)),
          (omega (arith, F.low), omega (arith, F.high), eqb-eq (true_of_not _ F.fails)),
        )

    -- where it comes next, what is left is the same
    pub next-left : {r : Option ℕ} → r ≡ unless_zero (owned_after es o n) → (part o (suc n) ≡ left_from o r) × Next o r
    next-left {r} e =
        eq-cases (owned_after es o n) 0
        (λ z. rw (e, z) (after-none z, tt))
        (λ z.
        let s = after-some z in
        let w : owned_after es o n ≡ suc (owned_after es o n - 1) = omega arith in
        let r' : r ≡ Some (owned_after es o n) = e ∙ rw w refl in
        rw r' (s.0, (omega (arith, s.1.0), s.1.1, s.1.2)))

  -- the first of a place
  pub first-left : (o : ℕ) {r : Option ℕ} → r ≡ unless_zero (owned_after es o 0) → (entries_under es o ≡ left_from o r) × Next o r
  first-left o e = let s = next-left o 0 (omega arith) e in (part-all o ∙ s.0, s.1)

  -- the one after an entry of it
  pub then-left : (o n : ℕ) → 1 ≤ n → n ≤ length es → owner_of es n ≡ o → {r : Option ℕ} → r ≡ unless_zero (next_of es n)
      → (part o (suc n) ≡ left_from o r) × Next o r
  unfolding next_of
  then-left o n lo hi z e =
      next-left o n hi (e ∙ ap unless_zero (rw (next_of, ne_eqb {m = n} {n = 0} (λ q. omega arith), z) refl))

-- ---- rows

-- the rows of what is left at a depth
abbrev pub packed_left : ℕ → Tree Entry Entry → List ℕ
packed_left d t = map mark_packed (walked d t)

pub packed-leaf : (d : ℕ) (a : Entry) (r : Tree Entry Entry) → packed_left d (leaf a r) ≡ mark_packed (leaf_at d a) ∷ packed_left d r
unfolding walked
packed-leaf d a r = refl

pub packed-node : (d : ℕ) (b : Entry) (s r : Tree Entry Entry)
    → packed_left d (node b s r) ≡ mark_packed (node_at d b) ∷ (packed_left (suc d) s ++ packed_left d r)
unfolding walked
packed-node d b s r = ap (λ (l : List ℕ). mark_packed (node_at d b) ∷ l) (map-append mark_packed (walked (suc d) s) (walked d r))

-- one row, and then those behind it
pub stored-first : (rows : List ℕ) (k x : ℕ) (X : List ℕ) → stored (set rows k x) (k + 1) X ≡ stored rows k (x ∷ X)
unfolding stored
stored-first rows k x X = ap (λ (i : ℕ). stored (set rows k x) i X) (omega arith)

-- two runs of rows
pub stored-both : (rows : List ℕ) (k : ℕ) (X Y : List ℕ) → stored (stored rows k X) (k + length X) Y ≡ stored rows k (X ++ Y)
stored-both rows k X Y = stored-then rows X Y k (k + length X) refl refl refl
