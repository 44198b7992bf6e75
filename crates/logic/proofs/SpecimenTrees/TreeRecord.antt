-- The record of a specimen's tree: the top item fits there what the tree says.
-- Assumes nothing.
use Prim.Native.Nat.{◌+◌, ◌<◌, suc, ℕ}
use lib.Dec.{eqb, leb, ltb}
use lib.ListN.{get_or, length}
use mathlib.Core.Bool.{Bool, ◌&&◌, ◌||◌, and-true, cond, false, not}
use mathlib.Core.List.{List, [], ◌∷◌}
use mathlib.Core.Path.{◌∙◌, ◌≡◌, ap, ap₂, refl}
use native.Mathlib.Omega.{arith}
use Rattle.base.proofs.Tests.{bool_cases, tests}
use Rattle.logic.proofs.Records.Counting.{count-list, count_in, every-ext, every-list, every_in}
use Rattle.logic.proofs.SpecimenTrees.TreeItems.{Item, count-items, every_items, groups, home, items, linked_to, part, part_low, passes, top}
use Rattle.logic.specs.Background.{Background, Keeps}
use Rattle.logic.specs.Place.{Atom, Place, atom, has, lacks, least, most, nothing}
use Rattle.logic.specs.Record.{Record, along, each_linked, fits, meets, successors}
use Rattle.logic.specs.SpecimenTree.{KeepsTop, KeptBelow, SpecimenTree, along_top, each_in, fits_top, given, group, meets_top, total}
use Rattle.logic.specs.Tree.{end, leaf, node}

-- ---- the record

module _ (s : SpecimenTree) where
  abbrev all_items : List Item
  all_items = top ∷ items 1 0 s []

  -- what the items of group g are
  abbrev whole_of : ℕ → SpecimenTree
  whole_of g = cond (eqb g 0) s (part 1 s g)

  -- the group of item i
  abbrev home_of : ℕ → ℕ
  home_of i = home (get_or all_items i top)

  -- the record of a tree; its top item is item 0
  pub tree_record : Record
  tree_record =
      record {
        size = length all_items;
        property = λ p i. given p (whole_of (home_of i));
        link = λ l i j. linked_to l (home_of i) (get_or all_items j top);
      }

  -- the items that an item is linked to are those of its groups
  successors-tree : (l i : ℕ) → successors tree_record l i ≡ total l (whole_of (home_of i))
  unfolding tree_record count_in total
  successors-tree l i =
      count-list (linked_to l (home_of i)) top all_items ∙ rw (count-items l (home_of i) 1 0 s [])
      (bool_cases (eqb (home_of i) 0)
      (λ q. let z : part 1 s (home_of i) ≡ end = part_low 1 s (home_of i) (omega tests) in rw (q, z) (omega arith))
      (λ q. rw q (omega arith)))

  -- a test of them passes if it does at its groups
  linked-tree : (f : SpecimenTree → Bool) (l i : ℕ)
      → each_linked tree_record l i (λ y. f (whole_of (home_of y))) ≡ each_in l f (whole_of (home_of i))
  unfolding tree_record every_in each_in
  linked-tree f l i =
      every-list (passes f whole_of l (home_of i)) top all_items
      ∙ every_items f whole_of l (home_of i) 1 0 s [] (λ h a b. let z : eqb h 0 ≡ false = omega tests in rw z)
      ∙ bool_cases (eqb (home_of i) 0)
      (λ q. let z : part 1 s (home_of i) ≡ end = part_low 1 s (home_of i) (omega tests) in rw (q, z) (simp and-true))
      (λ q. rw q (simp and-true))

  -- an item meets what its tree says
  meets-tree : (a : Atom) (i : ℕ) → meets tree_record a i ≡ meets_top a (whole_of (home_of i))
  meets-tree (atom has p m) i = unfold tree_record in refl
  meets-tree (atom lacks p m) i = unfold tree_record in refl
  meets-tree (atom least l m) i = ap (λ (c : ℕ). leb m c) (successors-tree l i)
  meets-tree (atom most l m) i = ap (λ (c : ℕ). leb c m) (successors-tree l i)
  meets-tree (atom nothing n m) i = refl

  -- an item fits what its tree says
  fits-tree : (d : Place) (i : ℕ) → fits tree_record d i ≡ fits_top d (whole_of (home_of i))
  unfolding fits fits_top
  fits-tree end i = refl
  fits-tree (leaf a r) i = rw (meets-tree a i, fits-tree r i)
  fits-tree (node l d r) i =
      ap₂ (λ (a b : Bool). a && b)
      (every-ext _ _ _ (λ y h. ap (λ (b : Bool). not (tree_record.link l i y) || b) (fits-tree d y)) ∙ linked-tree (λ u. fits_top d u) l i)
      (fits-tree r i)

  -- and the links lead to what its tree says
  along-tree : (w : List ℕ) (a : Atom) (i : ℕ) → along tree_record w i (meets tree_record a) ≡ along_top w (meets_top a) (whole_of (home_of i))
  unfolding along along_top
  along-tree [] a i = meets-tree a i
  along-tree (l ∷ w) a i =
      every-ext _ _ _ (λ y h. ap (λ (b : Bool). not (tree_record.link l i y) || b) (along-tree w a y)) ∙ linked-tree (λ u. along_top w (meets_top a) u) l i

  -- the top item is item 0
  pub top-fits : (d : Place) → fits tree_record d 0 ≡ fits_top d s
  top-fits d = fits-tree d 0

  pub top-along : (w : List ℕ) (a : Atom) → along tree_record w 0 (meets tree_record a) ≡ along_top w (meets_top a) s
  top-along w a = along-tree w a 0

  pub top_below : 0 < tree_record.size
  unfolding tree_record
  top_below = omega arith

-- ---- keeping a background

module _ (b : Background) where
  -- an item with no properties and no groups keeps every background
  keeps-end : KeepsTop b end
  unfolding total given
  keeps-end = record { caps = λ l m e. omega arith; exclusions = λ p q e. refl }

  -- all items keep the background
  keeps-part : (s : SpecimenTree) → KeptBelow b s → (k g : ℕ) → KeepsTop b (part k s g)
  unfolding part
  keeps-part end h k g = keeps-end
  keeps-part (leaf p r) h k g = keeps-part r h k g
  keeps-part (node (group l n) s r) h k g =
      bool_cases (eqb g k)
      (λ q. rw q h.0)
      (λ q. bool_cases (ltb g (suc (k + groups s)))
      (λ z. rw (q, z) (keeps-part s h.1 (suc k) g))
      (λ z. rw (q, z) (keeps-part r h.2 (suc (k + groups s)) g)))

  -- the record of a tree keeps a background if the items do
  pub tree-keeps : (s : SpecimenTree) → KeepsTop b s → KeptBelow b s → Keeps b (tree_record s)
  unfolding tree_record
  tree-keeps s h k =
      let whole : (g : ℕ) → KeepsTop b (whole_of s g) = λ g. bool_cases (eqb g 0) (λ q. rw q h) (λ q. rw q (keeps-part s k 1 g)) in
      record {
        caps = λ l m x e i. rw (successors-tree s l x) ((whole (home_of s x)).caps l m e);
        exclusions = λ p q x e i. (whole (home_of s x)).exclusions p q e;
      }
