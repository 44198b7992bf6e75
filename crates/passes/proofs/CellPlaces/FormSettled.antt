-- Settling slots that are settled changes nothing: the places of the settled slots are those of the slots.
-- Assumes nothing.
use Prim.Native.Nat.{suc, ℕ}
use mathlib.Core.Bool.{Bool, ◌&&◌, false, true}
use mathlib.Core.List.{List, [], ◌∷◌}
use mathlib.Core.Option.{Option}
use mathlib.Core.Path.{◌≡◌, fun_ext, refl}
use Rattle.logic.specs.Place.{Place}
use Rattle.passes.proofs.SlotLists.SameKeys.{SameKeys, same-position, same_taken}
use Rattle.passes.specs.code.Forms.{form, formed}
use Rattle.passes.specs.code.Pipeline.{sorted_cells}
use Rattle.passes.specs.code.Slots.{Slot, cells, closed, inconsistent, position, settled, slot, taken}

-- a bound that is closed once more
closed-twice : (b : Bool) (hi : Option ℕ) → closed b (closed b hi) ≡ closed b hi
closed-twice true hi = refl
closed-twice false hi = refl

-- the same places are impossible
inconsistent-settled : (k : ℕ) (ss : List Slot) (v : ℕ) → inconsistent k (settled k ss) v ≡ inconsistent k ss v
unfolding inconsistent settled
inconsistent-settled k [] v = refl
inconsistent-settled k (slot u b n lo hi ∷ ss) v =
    rw (inconsistent-settled (suc k) ss k, inconsistent-settled (suc k) ss v, closed-twice (b && inconsistent (suc k) ss k) hi)

pub settled-twice : (k : ℕ) (ss : List Slot) → settled k (settled k ss) ≡ settled k ss
unfolding settled
settled-twice k [] = refl
settled-twice k (slot u b n lo hi ∷ ss) =
    rw (inconsistent-settled (suc k) ss k, settled-twice (suc k) ss, closed-twice (b && inconsistent (suc k) ss k) hi)

-- each place has the same cells
cells-settled : (k : ℕ) (ss : List Slot) (v : ℕ) → cells k (settled k ss) v ≡ cells k ss v
unfolding cells settled
cells-settled k [] v = refl
cells-settled k (slot u b n lo hi ∷ ss) v =
    rw (inconsistent-settled (suc k) ss k, cells-settled (suc k) ss v, closed-twice (b && inconsistent (suc k) ss k) hi)

formed-settled : (k : ℕ) (ss : List Slot) (j : ℕ) → formed k (settled k ss) j ≡ formed k ss j
unfolding formed settled
formed-settled k [] j = refl
formed-settled k (slot u b n lo hi ∷ ss) j =
    let below : ◌≡◌ {A = ℕ → Place} (λ i. formed (suc k) (settled (suc k) ss) i) (λ i. formed (suc k) ss i) = fun_ext (λ i. formed-settled (suc k) ss i) in
    rw (below, cells-settled (suc k) ss k)

-- and is the same
pub form-settled : (ss : List Slot) (v : ℕ) → form (settled 1 ss) v ≡ form ss v
unfolding form sorted_cells
form-settled ss v =
    let below : ◌≡◌ {A = ℕ → Place} (λ i. formed 1 (settled 1 ss) i) (λ i. formed 1 ss i) = fun_ext (λ i. formed-settled 1 ss i) in
    rw (below, cells-settled 1 ss 0)

-- ---- settled slots have the keys of the slots

pub settled-keys : (k : ℕ) (ss : List Slot) → SameKeys (settled k ss) ss
unfolding settled
settled-keys k [] = tt
settled-keys k (slot u b n lo hi ∷ ss) = (refl, refl, refl, settled-keys (suc k) ss)

-- a key is taken among them, or not, as before
pub taken-settled : (k : ℕ) (ss : List Slot) (v : ℕ) (b : Bool) (n : ℕ) → taken (settled k ss) v b n ≡ taken ss v b n
taken-settled k ss = same_taken (settled k ss) ss (settled-keys k ss)

-- and its slot has the same number
pub position-settled : (k : ℕ) (ss : List Slot) (v : ℕ) (b : Bool) (n : ℕ) → position k (settled k ss) v b n ≡ position k ss v b n
position-settled k ss = same-position k (settled k ss) ss (settled-keys k ss)
