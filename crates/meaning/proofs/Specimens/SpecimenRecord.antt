-- The record of a specimen that was written from a tree: its top item fits there what the tree says.
-- Assumes nothing.
use Prim.Native.Nat.{◌≤◌, suc, ℕ}
use lib.Dec.{eqb, leb}
use mathlib.Core.Bool.{Bool, ◌&&◌, ◌||◌, cond, not}
use mathlib.Core.List.{List, [], ◌∷◌, map}
use mathlib.Core.Path.{◌∙◌, ◌≡◌, ap, ap₂, refl}
use native.Mathlib.Omega.{arith}
use Rattle.base.proofs.Tests.{bool_cases}
use Rattle.logic.proofs.Records.Counting.{every-from-ext, every_from, sum_in}
use Rattle.logic.proofs.TreeRows.LayoutLaws.{write-early, write-reads}
use Rattle.logic.specs.Layout.{write}
use Rattle.logic.specs.Place.{Atom, Place, atom, has, lacks, least, most, nothing}
use Rattle.logic.specs.Record.{fits}
use Rattle.logic.specs.SpecimenTree.{Group, SpecimenTree, each_in, fits_top, given, group, meets_top, total}
use Rattle.logic.specs.Tree.{Early, Row, end, leaf, leaf_row, node, node_row, tree}
use Rattle.meaning.proofs.Descriptions.Places.{tree-skip}
use Rattle.meaning.proofs.Specimens.Items.{each_group, fits-groups, fits_by, group_at, group_under, linked_items, meets_by}
use Rattle.meaning.specs.Specimen.{owns, record_of}
use Rattle.meaning.specs.SpecimenFor.{row_entry, specimen_entries}

-- ---- rows

-- the properties of a group
owns-tree : (g p k : ℕ) (rs : List (Row ℕ Group)) → owns g p (map row_entry rs) ≡ given p (tree k rs g)
unfolding owns given tree
owns-tree g p k [] = refl
owns-tree g p k (leaf_row o q ∷ rs) = bool_cases (eqb g o) (λ z. rw (z, owns-tree g p (suc k) rs)) (λ z. rw (z, owns-tree g p (suc k) rs))
owns-tree g p k (node_row o (group l n) ∷ rs) = bool_cases (eqb g o) (λ z. rw (z, owns-tree g p (suc k) rs)) (λ z. rw (z, owns-tree g p (suc k) rs))

-- the items that the items of a group are linked to
linked-tree : (g l k : ℕ) (rs : List (Row ℕ Group))
    → sum_in (λ e. cond (group_under g l e) (suc e.number) 0) (map row_entry rs) ≡ total l (tree k rs g)
unfolding sum_in total tree
linked-tree g l k [] = refl
linked-tree g l k (leaf_row o q ∷ rs) =
    bool_cases (eqb g o) (λ z. rw (z, linked-tree g l (suc k) rs) (omega arith)) (λ z. rw (z, linked-tree g l (suc k) rs) (omega arith))
linked-tree g l k (node_row o (group l' n) ∷ rs) =
    bool_cases (eqb g o) (λ z. rw (z, linked-tree g l (suc k) rs)) (λ z. rw (z, linked-tree g l (suc k) rs) (omega arith))

-- a test of the groups of a group by a link, where `whole n` is what row n owns
module _ (f : SpecimenTree → Bool) (whole : ℕ → SpecimenTree) (g l : ℕ) where
  each-tree : (k : ℕ) (rs : List (Row ℕ Group)) → Early k rs → ((n : ℕ) → k ≤ n → tree k rs n ≡ whole n)
      → every_from (λ n e. not (group_under g l e) || f (whole n)) k (map row_entry rs) ≡ each_in l f (tree k rs g)
  unfolding every_from each_in tree
  each-tree k [] h w = refl
  each-tree k (leaf_row o q ∷ rs) h w =
      let ih = each-tree (suc k) rs h.1 (λ n i. tree-skip (leaf_row o q) k rs n h.0 (omega arith) ∙ w n (omega arith)) in
      bool_cases (eqb g o) (λ z. rw (z, ih)) (λ z. rw (z, ih))
  each-tree k (node_row o (group l' n) ∷ rs) h w =
      let ih = each-tree (suc k) rs h.1 (λ n' i. tree-skip (node_row o (group l' n)) k rs n' h.0 (omega arith) ∙ w n' (omega arith)) in
      let own : tree (suc k) rs k ≡ whole k = tree-skip (node_row o (group l' n)) k rs k h.0 (omega arith) ∙ w k (omega arith) in
      bool_cases (eqb g o) (λ z. rw (z, ih, own)) (λ z. rw (z, ih))

-- ---- the record

module _ (rs : List (Row ℕ Group)) (early : Early 1 rs) where
  -- a group meets an atom if what it owns says so
  meets-rows : (a : Atom) (g : ℕ) → meets_by (map row_entry rs) a g ≡ meets_top a (tree 1 rs g)
  unfolding linked_items
  meets-rows (atom has p m) g = owns-tree g p 1 rs
  meets-rows (atom lacks p m) g = ap not (owns-tree g p 1 rs)
  meets-rows (atom least l m) g = ap (λ (n : ℕ). leb m n) (linked-tree g l 1 rs)
  meets-rows (atom most l m) g = ap (λ (n : ℕ). leb n m) (linked-tree g l 1 rs)
  meets-rows (atom nothing n m) g = refl

  -- a group fits a place if what it owns says so
  fits-rows : (d : Place) (g : ℕ) → fits_by (map row_entry rs) d g ≡ fits_top d (tree 1 rs g)
  unfolding fits_by fits_top each_group
  fits-rows end g = refl
  fits-rows (leaf a r) g = rw (meets-rows a g, fits-rows r g)
  fits-rows (node l d r) g =
      ap₂ (λ (a b : Bool). a && b)
      (every-from-ext _ _ 1 _ (λ n e. ap (λ (b : Bool). not (group_under g l e) || b) (fits-rows d n))
      ∙ each-tree (λ u. fits_top d u) (tree 1 rs) g l 1 rs early (λ n i. refl))
      (fits-rows r g)

-- an item fits what its group owns says
pub item-fits : (s : SpecimenTree) (d : Place) (i : ℕ)
    → fits (record_of (specimen_entries s)) d i ≡ fits_top d (tree 1 (write s) (group_at (specimen_entries s) i))
unfolding specimen_entries
item-fits s d i = fits-groups (specimen_entries s) d i ∙ fits-rows (write s) (write-early s) d (group_at (specimen_entries s) i)

-- the top item fits what the tree says
pub specimen-fits : (s : SpecimenTree) (d : Place) → fits (record_of (specimen_entries s)) d 0 ≡ fits_top d s
specimen-fits s d = item-fits s d 0 ∙ ap (fits_top d) (write-reads s)
