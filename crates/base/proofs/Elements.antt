-- The element at an index of a list is a member of it.
-- Assumes nothing.
use Prim.Native.Nat.{◌<◌, suc, zero, ℕ}
use lib.ListN.{get_or, length}
use mathlib.Core.List.{List, Memᴰ, [], ◌∷◌}
use mathlib.Core.Path.{refl}
use native.Mathlib.Omega.{arith}

-- what stands at an index of a list is a member of it; past the end d is read
pub member-at : {A : Type 0} (d : A) (l : List A) (k : ℕ) → k < length l → Memᴰ (get_or l k d) l
member-at d [] k h = absurd (omega arith)
member-at d (x ∷ l) zero h = Memᴰ.head refl
member-at d (x ∷ l) (suc k) h = Memᴰ.tail (member-at d l k (omega arith))
