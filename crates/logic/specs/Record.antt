-- Finite records, and which items fit a place.
-- Assumes nothing.
use Rattle.std.specs.Prelude.{Bool, true, false, not, ◌&&◌, ◌||◌, List, [], ◌∷◌, ℕ, zero, suc, ◌+◌, leb}
use Rattle.base.specs.Range.{bit}
use Rattle.logic.specs.Place.{has, lacks, least, most, nothing, Atom, atom, Place}
use Rattle.logic.specs.Tree.{end, leaf, node}

-- [F1] finitely many items, and which have which properties and links. The items are the numbers below the size. In
-- description logic: a finite interpretation, concept names and role names.
pub record Record : Type 0 where
  pub size : ℕ
  pub property : ℕ → ℕ → Bool
  pub link : ℕ → ℕ → ℕ → Bool

-- how many numbers below n pass
unfoldable pub count : (ℕ → Bool) → ℕ → ℕ
count p zero = 0
count p (suc n) = bit (p n) + count p n

-- all numbers below n pass
unfoldable pub every : (ℕ → Bool) → ℕ → Bool
every p zero = true
every p (suc n) = p n && every p n

-- [F3] the number of different items that item x is linked to by link l
abbrev pub successors : Record → ℕ → ℕ → ℕ
successors c l x = count (λ y. c.link l x y) c.size

-- each item that x is linked to by l passes
abbrev pub each_linked : Record → ℕ → ℕ → (ℕ → Bool) → Bool
each_linked c l x p = every (λ y. not (c.link l x y) || p y) c.size

-- [F4] item x meets an atom, whatever background records keep [F14]
abbrev pub meets : Record → Atom → ℕ → Bool
meets c (atom has p m) x = c.property p x
meets c (atom lacks p m) x = not (c.property p x)
meets c (atom least l m) x = leb m (successors c l x)
meets c (atom most l m) x = leb (successors c l x) m
meets c (atom nothing n m) x = false

-- [F4] [F5] an item fits a place where it meets each entry of it, an 'every' where each linked item fits the place
-- below
unfoldable pub fits : Record → Place → ℕ → Bool
fits c end x = true
fits c (leaf a r) x = meets c a x && fits c r x
fits c (node l s r) x = each_linked c l x (λ y. fits c s y) && fits c r x

-- each item that is reached from x by the links w, one after the other, passes
unfoldable pub along : Record → List ℕ → ℕ → (ℕ → Bool) → Bool
along c [] x p = p x
along c (l ∷ w) x p = each_linked c l x (λ y. along c w y p)
