-- A table that has the same value at every place.
-- Assumes nothing.
use Prim.Native.Nat.{suc, zero, ℕ}
use lib.ListN.{get_or, replicate}
use mathlib.Core.Path.{◌≡◌, refl}

-- it is read at any place, and past the end where nothing else stands for what is missing
pub alike-read : {A : Type 0} (d : A) (k n : ℕ) → get_or (replicate k d) n d ≡ d
alike-read d zero n = refl
alike-read d (suc k) zero = refl
alike-read d (suc k) (suc n) = alike-read d k n
