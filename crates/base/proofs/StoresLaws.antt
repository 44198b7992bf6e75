-- Laws of stores in a row.
-- Assumes nothing.
use Prim.Native.Nat.{◌+◌, ◌<◌, ◌≤◌, suc, ℕ}
use lib.ListN.{get_or-append, drop, get_or, length, length-append, set, take}
use lib.Seq.{get_or-append-add, length-sets, length-take-le, sets, sets-eq}
use mathlib.Core.List.{List, [], ◌++◌, ◌∷◌}
use mathlib.Core.Path.{◌∙◌, ◌≡◌, refl, sym}
use native.Mathlib.Nat.{add-suc, add-zero, suc-add, zero-add}
use native.Mathlib.Omega.{arith}
use Rattle.base.proofs.Lists.{Holds}
use Rattle.base.specs.Stores.{stored}

-- stores in a row are those of the first part and then those of the second
sets-append : (l X Y : List ℕ) (i : ℕ) → sets l i (X ++ Y) ≡ sets (sets l i X) (i + length X) Y
sets-append l [] Y i = rw add-zero
sets-append l (a ∷ X) Y i = sets-append (set l i a) X Y (suc i) ∙ rw (add-suc, suc-add)

pub stored-none : (l : List ℕ) (i : ℕ) → l ≡ stored l i []
unfolding stored
stored-none l i = refl

pub stored_one : (l : List ℕ) (i a : ℕ) → set l i a ≡ stored l i (a ∷ [])
unfolding stored
stored_one l i a = refl

-- a further run of stores, right after the first
pub stored-then : (l X Y : List ℕ) (i j : ℕ) {l₁ l₂ : List ℕ} → l₁ ≡ stored l i X → l₂ ≡ stored l₁ j Y → j ≡ i + length X
    → l₂ ≡ stored l i (X ++ Y)
unfolding stored
stored-then l X Y i j e f h = f ∙ rw (e, h) (sym (sets-append l X Y i))

pub length-stored : (l X : List ℕ) (i : ℕ) → length (stored l i X) ≡ length l
unfolding stored
length-stored l X i = length-sets l i X

-- what is read back where something was stored
pub get_d-stored : (l X : List ℕ) (at k : ℕ) → k < length X → at + length X ≤ length l → get_or (stored l at X) (at + k) 0 ≡ get_or X k 0
unfolding stored
get_d-stored l X at k h fits =
    let e : length (take at l) ≡ at = length-take-le at l (omega arith) in
    let r = drop (at + length X) l in
    rw (sets-eq X l at fits) (get_or-append (take at l ++ X) r 0 (at + k) (simp (length-append, e) (omega arith)) ∙ (rw e at (get_or-append-add (take at l) X k 0)))

pub holds-stored : (l X : List ℕ) (at : ℕ) → at + length X ≤ length l → Holds (stored l at X) at X
holds-stored l X at fits = record { each = λ k h. get_d-stored l X at k h fits }

-- stores at the front, as a list
pub stored-front : (l X : List ℕ) → length X ≤ length l → stored l 0 X ≡ X ++ drop (length X) l
unfolding stored
stored-front l X h = rw (sets-eq X l 0 (omega arith), zero-add)
