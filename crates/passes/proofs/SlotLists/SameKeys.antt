-- Slots that differ in their bounds alone: what goes by places, classes and names is the same of them.
-- Assumes nothing.
use Prim.Native.Nat.{suc, ℕ}
use lib.ListN.{length}
use mathlib.Core.Bool.{Bool}
use mathlib.Core.List.{List, [], ◌∷◌}
use mathlib.Core.Path.{◌∙◌, ◌≡◌, refl}
use native.Mathlib.Omega.{arith}
use Rattle.passes.specs.code.Slots.{DistinctSlots, EarlySlots, Slot, position, slot, taken}

-- the same place, class and name, slot by slot
abbrev pub SameKeys : List Slot → List Slot → Type 0
SameKeys [] [] = Unit {0}
SameKeys [] (s ∷ ss) = ⊥
SameKeys (s ∷ ss) [] = ⊥
SameKeys (slot u b n lo hi ∷ ss) (slot u' b' n' lo' hi' ∷ ss') = (u ≡ u') × (b ≡ b') × (n ≡ n') × SameKeys ss ss'

pub same_length : (ss ss' : List Slot) → SameKeys ss ss' → length ss ≡ length ss'
same_length [] [] h = refl
same_length [] (s ∷ ss) h = absurd h
same_length (s ∷ ss) [] h = absurd h
same_length (slot u b n lo hi ∷ ss) (slot u' b' n' lo' hi' ∷ ss') h = omega (arith, same_length ss ss' h.3)

-- a key is taken among both or among none
pub same_taken : (ss ss' : List Slot) → SameKeys ss ss' → (v : ℕ) (b : Bool) (n : ℕ) → taken ss v b n ≡ taken ss' v b n
unfolding taken
same_taken [] [] h v b n = refl
same_taken [] (s ∷ ss) h v b n = absurd h
same_taken (s ∷ ss) [] h v b n = absurd h
same_taken (slot u c m lo hi ∷ ss) (slot u' c' m' lo' hi' ∷ ss') h v b n =
    rw (h.0, h.1, h.2, same_taken ss ss' h.3 v b n)

-- and its slot has one number
pub same-position : (k : ℕ) (ss ss' : List Slot) → SameKeys ss ss' → (v : ℕ) (b : Bool) (n : ℕ)
    → position k ss v b n ≡ position k ss' v b n
unfolding position
same-position k [] [] h v b n = refl
same-position k [] (s ∷ ss) h v b n = absurd h
same-position k (s ∷ ss) [] h v b n = absurd h
same-position k (slot u c m lo hi ∷ ss) (slot u' c' m' lo' hi' ∷ ss') h v b n =
    rw (h.0, h.1, h.2, same-position (suc k) ss ss' h.3 v b n)

pub same-early : (k : ℕ) (ss ss' : List Slot) → SameKeys ss ss' → EarlySlots k ss' → EarlySlots k ss
same-early k [] [] h e = tt
same-early k [] (s ∷ ss) h e = tt
same-early k (s ∷ ss) [] h e = absurd h
same-early k (slot u b n lo hi ∷ ss) (slot u' b' n' lo' hi' ∷ ss') h e =
    (rw h.0 e.0, same-early (suc k) ss ss' h.3 e.1)

pub same-distinct : (ss ss' : List Slot) → SameKeys ss ss' → DistinctSlots ss' → DistinctSlots ss
same-distinct [] [] h d = tt
same-distinct [] (s ∷ ss) h d = tt
same-distinct (s ∷ ss) [] h d = absurd h
same-distinct (slot u b n lo hi ∷ ss) (slot u' b' n' lo' hi' ∷ ss') h d =
    (rw (h.0, h.1, h.2) (same_taken ss ss' h.3 u' b' n' ∙ d.0), same-distinct ss ss' h.3 d.1)
