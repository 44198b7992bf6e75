-- Fitting in the record of a specimen goes by groups: all items of a group fit the same places.
-- Assumes nothing.
use Prim.Native.Nat.{suc, ℕ}
use lib.Dec.{eqb, leb}
use lib.ListN.{get_or}
use mathlib.Core.Bool.{Bool, ◌&&◌, ◌||◌, cond, false, not, true}
use mathlib.Core.List.{List, [], ◌∷◌}
use mathlib.Core.Path.{◌∙◌, ◌≡◌, ap, ap₂, refl}
use native.Mathlib.Omega.{arith}
use Rattle.base.proofs.Tests.{bool_cases}
use Rattle.blocks.specs.declared.Entry.{Entry}
use Rattle.logic.proofs.Records.Counting.{count-copies, count-list, count_in, every-copies, every-ext, every-list, every_from, every_in, sum_in}
use Rattle.logic.specs.Place.{Atom, Place, atom, has, lacks, least, most, nothing}
use Rattle.logic.specs.Record.{each_linked, fits, meets, successors}
use Rattle.logic.specs.Tree.{end, leaf, node}
use Rattle.meaning.specs.Specimen.{Item, all_items, group_of, items, linked, member, owns, record_of, top}

-- ---- fitting by groups

-- entry e is a group of owner g by link l
abbrev pub group_under : ℕ → ℕ → Entry → Bool
group_under g l e = eqb e.kind 7 && (eqb g e.owner && eqb l e.name)

-- the items that an item of group g is linked to by l
unfoldable pub linked_items : List Entry → ℕ → ℕ → ℕ
linked_items s g l = sum_in (λ e. cond (group_under g l e) (suc e.number) 0) s

-- each group of owner g by link l passes, by its number
unfoldable pub each_group : (ℕ → Bool) → List Entry → ℕ → ℕ → Bool
each_group p s g l = every_from (λ k e. not (group_under g l e) || p k) 1 s

-- the items of group g meet an atom
abbrev pub meets_by : List Entry → Atom → ℕ → Bool
meets_by s (atom has p m) g = owns g p s
meets_by s (atom lacks p m) g = not (owns g p s)
meets_by s (atom least l m) g = leb m (linked_items s g l)
meets_by s (atom most l m) g = leb (linked_items s g l) m
meets_by s (atom nothing n m) g = false

-- the items of group g fit a place
unfoldable pub fits_by : List Entry → Place → ℕ → Bool
fits_by s end g = true
fits_by s (leaf a r) g = meets_by s a g && fits_by s r g
fits_by s (node l t r) g = each_group (λ k. fits_by s t k) s g l && fits_by s r g

-- ---- items and groups

-- the items that item a is linked to are those of the groups under its own
count-items : (l : ℕ) (a : Item) (k : ℕ) (es : List Entry)
    → count_in (linked l a) (items k es) ≡ sum_in (λ e. cond (group_under (group_of a) l e) (suc e.number) 0) es
unfolding items sum_in
count-items l a k [] = unfold count_in in refl
count-items l a k (e ∷ es) =
    bool_cases (eqb e.kind 7)
    (λ q. rw q (count-copies (linked l a) (suc e.number) (member k e.owner e.name) (items (suc k) es) ∙ rw (count-items l a (suc k) es)))
    (λ q. rw q (count-items l a (suc k) es ∙ omega arith))

-- a test of groups passes at each item that a is linked to if it passes at each group under its own
every_items : (q : ℕ → Bool) (l : ℕ) (a : Item) (k : ℕ) (es : List Entry)
    → every_in (λ b. not (linked l a b) || q (group_of b)) (items k es) ≡ every_from (λ j e. not (group_under (group_of a) l e) || q j) k es
unfolding items every_from
every_items q l a k [] = unfold every_in in refl
every_items q l a k (e ∷ es) =
    bool_cases (eqb e.kind 7)
    (λ z. rw z (every-copies (λ b. not (linked l a b) || q (group_of b)) e.number (member k e.owner e.name) (items (suc k) es) ∙ rw (every_items q l a (suc k) es)))
    (λ z. rw z (every_items q l a (suc k) es))

-- ---- in the record

module _ (s : List Entry) where
  -- the group of item i
  abbrev pub group_at : ℕ → ℕ
  group_at i = group_of (get_or (all_items s) i top)

  -- [F9] groups of one owner and link add up: the number of items that item i is linked to by l
  pub successors-groups : (l i : ℕ) → successors (record_of s) l i ≡ linked_items s (group_at i) l
  unfolding record_of count_in linked_items
  successors-groups l i =
      count-list (linked l (get_or (all_items s) i top)) top (all_items s) ∙ rw (count-items l (get_or (all_items s) i top) 1 s) (omega arith)

  -- each item that item i is linked to by l passes
  linked-groups : (q : ℕ → Bool) (l i : ℕ) → each_linked (record_of s) l i (λ y. q (group_at y)) ≡ each_group q s (group_at i) l
  unfolding record_of every_in each_group
  linked-groups q l i =
      every-list (λ b. not (linked l (get_or (all_items s) i top) b) || q (group_of b)) top (all_items s)
      ∙ every_items q l (get_or (all_items s) i top) 1 s

  -- an item meets an atom if its group does
  meets-groups : (a : Atom) (i : ℕ) → meets (record_of s) a i ≡ meets_by s a (group_at i)
  meets-groups (atom has p m) i = unfold record_of in refl
  meets-groups (atom lacks p m) i = unfold record_of in refl
  meets-groups (atom least l m) i = ap (λ (c : ℕ). leb m c) (successors-groups l i)
  meets-groups (atom most l m) i = ap (λ (c : ℕ). leb c m) (successors-groups l i)
  meets-groups (atom nothing n m) i = refl

  -- an item fits a place if its group does
  pub fits-groups : (d : Place) (i : ℕ) → fits (record_of s) d i ≡ fits_by s d (group_at i)
  unfolding fits fits_by
  fits-groups end i = refl
  fits-groups (leaf a r) i = rw (meets-groups a i, fits-groups r i)
  fits-groups (node l t r) i =
      ap₂ (λ (a b : Bool). a && b)
      (every-ext _ _ _ (λ y h. ap (λ (b : Bool). not ((record_of s).link l i y) || b) (fits-groups t y)) ∙ linked-groups (λ k. fits_by s t k) l i)
      (fits-groups r i)
