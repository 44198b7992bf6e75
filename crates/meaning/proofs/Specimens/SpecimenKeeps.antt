-- The record of a specimen that was written from a tree keeps a background if the tree does.
-- Assumes nothing.
use Prim.Native.Nat.{◌+◌, ◌<◌, ◌≤◌, suc, zero, ℕ}
use lib.Dec.{eqb, leb}
use lib.ListN.{get_or-eq_default, get_or, length, length-map}
use mathlib.Core.Bool.{true}
use mathlib.Core.List.{List, [], ◌∷◌, map}
use mathlib.Core.Logic.{◌≢◌}
use mathlib.Core.Path.{◌∙◌, ◌≡◌, refl, sym}
use native.Mathlib.Nat.{add-suc, add-zero, suc-add}
use native.Mathlib.Numerals.{one-add}
use native.Mathlib.Omega.{arith}
use Rattle.base.proofs.Tests.{and_left, and_one, bool_cases, eq-cases, le-leb, leb-le, lt-cases, ne_eqb, tests}
use Rattle.blocks.proofs.Refusing.Legal.{owner-earlier, owner-kind}
use Rattle.blocks.specs.Entries.{nth, zero_entry}
use Rattle.blocks.specs.Owners.{owner_of}
use Rattle.blocks.specs.Promise.{Legal}
use Rattle.blocks.specs.declared.Entry.{Entry}
use Rattle.blocks.specs.declared.Schema.TheVariants.{Specimen}
use Rattle.logic.proofs.TreeRows.LayoutLaws.{write-early, write-reads}
use Rattle.logic.specs.Background.{Background, Keeps}
use Rattle.logic.specs.Layout.{write}
use Rattle.logic.specs.Place.{atom, has, most}
use Rattle.logic.specs.Record.{fits, successors}
use Rattle.logic.specs.SpecimenTree.{Group, KeepsTop, KeptBelow, SpecimenTree, fits_top, given, group, total}
use Rattle.logic.specs.Tree.{Early, Row, end, leaf, leaf_row, node_row, tree}
use Rattle.meaning.proofs.Descriptions.Places.{tree-skip}
use Rattle.meaning.proofs.Specimens.Items.{group_at}
use Rattle.meaning.proofs.Specimens.SpecimenRecord.{item-fits}
use Rattle.meaning.specs.Specimen.{record_of}
use Rattle.meaning.specs.SpecimenFor.{row_entry, specimen_entries}

-- ---- rows

-- a number that owns no row owns nothing
owns_nothing : (k : ℕ) (rs : List (Row ℕ Group)) (g : ℕ) → ((i : ℕ) → i < length rs → (get_or (map row_entry rs) i zero_entry).owner ≢ g) → tree k rs g ≡ end
unfolding tree
owns_nothing k [] g h = refl
owns_nothing k (leaf_row o p ∷ rs) g h =
    let z : g ≢ o = λ q. h 0 (omega arith) (sym q) in
    rw (ne_eqb z) (owns_nothing (suc k) rs g (λ i l. h (suc i) (omega arith)))
owns_nothing k (node_row o (group l n) ∷ rs) g h =
    let z : g ≢ o = λ q. h 0 (omega arith) (sym q) in
    rw (ne_eqb z) (owns_nothing (suc k) rs g (λ i l'. h (suc i) (omega arith)))

module _ (b : Background) where
  -- all items of a tree keep the background
  abbrev Kept : SpecimenTree → Type 0
  Kept t = KeepsTop b t × KeptBelow b t

  kept-end : Kept end
  unfolding total given
  kept-end = (record { caps = λ l m e. omega arith; exclusions = λ p q e. refl }, tt)

  -- what stands below an owner without its first row
  kept-rest : (r : Row ℕ Group) (k : ℕ) (rs : List (Row ℕ Group)) (o : ℕ) → KeptBelow b (tree k (r ∷ rs) o) → KeptBelow b (tree (suc k) rs o)
  unfolding tree
  kept-rest (leaf_row o' p) k rs o h = bool_cases (eqb o o') (λ q. rw q at h) (λ q. rw q at h)
  kept-rest (node_row o' (group l n)) k rs o h = bool_cases (eqb o o') (λ q. (rw q at h).2) (λ q. rw q at h)

  -- what the first row owns, if it is a group of the owner
  kept-first : (k o o' x n : ℕ) (rs : List (Row ℕ Group)) → o' ≡ o → KeptBelow b (tree k (node_row o' (group x n) ∷ rs) o) → Kept (tree (suc k) rs k)
  unfolding tree
  kept-first k o o' x n rs f h = let y : eqb o o' ≡ true = omega tests in let v = rw y at h in (v.0, v.1)

  -- what a group owns is kept if what stands below its owner is
  kept-group : (k : ℕ) (rs : List (Row ℕ Group)) (o : ℕ) → Early k rs → KeptBelow b (tree k rs o) → (i : ℕ) → i < length rs
      → (get_or (map row_entry rs) i zero_entry).kind ≡ 7 → (get_or (map row_entry rs) i zero_entry).owner ≡ o → Kept (tree k rs (k + i))
  kept-group k [] o h below i l e f = absurd (omega arith)
  kept-group k (leaf_row o' p ∷ rs) o h below zero l e f = absurd (omega arith)
  kept-group k (leaf_row o' p ∷ rs) o h below (suc i) l e f =
      rw (add-suc, ← suc-add, ← tree-skip (leaf_row o' p) k rs (suc k + i) h.0 (omega arith))
      (kept-group (suc k) rs o h.1 (kept-rest (leaf_row o' p) k rs o below) i (omega arith) e f)
  kept-group k (node_row o' (group x n) ∷ rs) o h below zero l e f =
      rw (add-zero, ← tree-skip (node_row o' (group x n)) k rs k h.0 (omega arith)) (kept-first k o o' x n rs f below)
  kept-group k (node_row o' (group x n) ∷ rs) o h below (suc i) l e f =
      rw (add-suc, ← suc-add, ← tree-skip (node_row o' (group x n)) k rs (suc k + i) h.0 (omega arith))
      (kept-group (suc k) rs o h.1 (kept-rest (node_row o' (group x n)) k rs o below) i (omega arith) e f)

  -- ---- a specimen

  module _ (s : SpecimenTree) (L : Legal Specimen (specimen_entries s)) (kept : Kept s) where
    abbrev es : List Entry
    es = specimen_entries s

    -- the entries are as many as the rows
    size : length es ≡ length (write s)
    unfolding specimen_entries
    size = length-map (write s) row_entry

    -- a number of another kind owns nothing
    kept-other : (g : ℕ) → g ≢ 0 → (nth es g).kind ≢ 7 → Kept (tree 1 (write s) g)
    unfolding specimen_entries owner_of nth
    kept-other g z k =
        let e : tree 1 (write s) g ≡ end =
        owns_nothing 1 (write s) g (λ i l q.
        k (rw q at (owner-kind L (suc i) (omega arith) (omega (arith, size)) (λ y. z (sym q ∙ y))))) in
        rw e kept-end

    -- the items of each group keep the background
    kept-all : (bound g : ℕ) → g ≤ bound → Kept (tree 1 (write s) g)
    unfolding specimen_entries owner_of nth
    kept-all zero g h = let z : g ≡ 0 = omega arith in rw (z, write-reads s) kept
    kept-all (suc bound) zero h = rw (write-reads s) kept
    kept-all (suc bound) (suc i) h =
        eq-cases (nth es (suc i)).kind 7
        (λ k. lt-cases i (length es)
        (λ l.
        let o = owner-earlier L (suc i) (omega arith) (omega arith) in
        rw one-add at
        (kept-group 1 (write s) (owner_of es (suc i)) (write-early s) (kept-all bound (owner_of es (suc i)) (omega arith)).1 i (omega (arith, size)) k refl))
        (λ l. let past : get_or es i zero_entry ≡ zero_entry = get_or-eq_default es zero_entry l in
        let zero-kind : 0 ≡ 7 = rw past at k in absurd (omega arith)))
        (λ k. kept-other (suc i) (λ z. omega arith) k)

    -- the items of the group of an item
    kept-item : (x : ℕ) → KeepsTop b (tree 1 (write s) (group_at es x))
    kept-item x = (kept-all (group_at es x) (group_at es x) (omega arith)).0

    -- a property of an item
    item-property : (p x : ℕ) → (record_of es).property p x ≡ given p (tree 1 (write s) (group_at es x))
    unfolding fits fits_top
    item-property p x =
        sym (and_one ((record_of es).property p x)) ∙ item-fits s (leaf (atom has p 0) end) x ∙ and_one (given p (tree 1 (write s) (group_at es x)))

    -- the record keeps the background
    pub specimen-keeps : Keeps b (record_of es)
    unfolding fits fits_top
    specimen-keeps =
        record {
          caps = λ l m x e i.
              let t : leb (total l (tree 1 (write s) (group_at es x))) m ≡ true = le-leb ((kept-item x).caps l m e) in
              leb-le (and_left (leb (successors (record_of es) l x) m) true (item-fits s (leaf (atom most l m) end) x ∙ rw t));
          exclusions = λ p q x e i. rw (item-property p x, item-property q x) ((kept-item x).exclusions p q e);
        }
