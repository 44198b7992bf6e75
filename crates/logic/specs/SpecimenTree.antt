-- A specimen as a tree of groups, and which places its top item fits.
-- Assumes nothing.
use Rattle.std.specs.Prelude.{◌+◌, ◌≤◌, suc, ℕ, eqb, leb, Bool, ◌&&◌, ◌||◌, cond, false, not, true, List, [], ◌∷◌, ◌≡◌}
use Rattle.std.proofs.Math.Option.{some}
use Rattle.logic.specs.Background.{Background}
use Rattle.logic.specs.Place.{Atom, Place, atom, has, lacks, least, most, nothing}
use Rattle.logic.specs.Tree.{Tree, end, leaf, node}

-- a group of items: its link and, as it is stored, its count less 1
pub data Group : Type 0 where
  group : ℕ → ℕ → Group

-- a specimen: the properties of its top item, and its groups, each with what its items are
abbrev pub SpecimenTree : Type 0
SpecimenTree = Tree ℕ Group

-- [F8] the properties that its group owns, and no others: the top item has property p
unfoldable pub given : ℕ → SpecimenTree → Bool
given p end = false
given p (leaf q r) = eqb p q || given p r
given p (node (group l n) s r) = given p r

-- [F9] groups of one owner and link add up: the items that the top item is linked to by l
unfoldable pub total : ℕ → SpecimenTree → ℕ
total l end = 0
total l (leaf q r) = total l r
total l (node (group l' n) s r) = cond (eqb l l') (suc n) 0 + total l r

-- what the items of each group by l are passes
unfoldable pub each_in : ℕ → (SpecimenTree → Bool) → SpecimenTree → Bool
each_in l f end = true
each_in l f (leaf q r) = each_in l f r
each_in l f (node (group l' n) s r) = (not (eqb l l') || f s) && each_in l f r

-- the top item meets an atom
abbrev pub meets_top : Atom → SpecimenTree → Bool
meets_top (atom has p m) s = given p s
meets_top (atom lacks p m) s = not (given p s)
meets_top (atom least l m) s = leb m (total l s)
meets_top (atom most l m) s = leb (total l s) m
meets_top (atom nothing n m) s = false

-- the top item fits a place
unfoldable pub fits_top : Place → SpecimenTree → Bool
fits_top end s = true
fits_top (leaf a r) s = meets_top a s && fits_top r s
fits_top (node l d r) s = each_in l (λ u. fits_top d u) s && fits_top r s

-- what the links w lead to passes
unfoldable pub along_top : List ℕ → (SpecimenTree → Bool) → SpecimenTree → Bool
along_top [] f s = f s
along_top (l ∷ w) f s = each_in l (λ u. along_top w f u) s

-- the top item keeps a background
pub record KeepsTop (b : Background) (s : SpecimenTree) : Type 0 where
  pub caps : (l m : ℕ) → b.cap l ≡ some m → total l s ≤ m
  pub exclusions : (p q : ℕ) → b.excludes p q ≡ true → (given p s && given q s) ≡ false

-- the items of the groups keep it
abbrev pub KeptBelow : Background → SpecimenTree → Type 0
KeptBelow b end = Unit {0}
KeptBelow b (leaf q r) = KeptBelow b r
KeptBelow b (node g s r) = KeepsTop b s × KeptBelow b s × KeptBelow b r
