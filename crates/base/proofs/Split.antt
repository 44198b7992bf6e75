-- A number as full rows of r and a rest, and products that stay in order.
-- Assumes nothing.
use native.Mathlib.Omega.{arith}
use mathlib.Core.Path.{◌≡◌, refl, ◌∙◌}
use mathlib.Core.Logic.{◌⊎◌, inl, inr}
use Prim.Native.Nat.{ℕ, zero, suc, ◌+◌, ◌*◌, ◌/◌, ◌%◌, ◌≤◌, ◌<◌}
use native.Mathlib.Nat.{add-zero, mul-zero, mul-suc, mul-le-mul_left, mod-lt, div-add-mod, mul-add-div, mul-add-mod_self_left, div-eq_of_lt, mod-eq_of_lt}

-- one more row of w fits below n rows
pub row_below : (w : ℕ) {k n : ℕ} → k < n → w * k + w ≤ w * n
row_below w {k} {n} h = omega (arith, mul-suc w k, mul-le-mul_left w h)

-- the row of a place, and its place in the row
pub row_of : {r : ℕ} (i j : ℕ) → j < r → (r * i + j) / r ≡ i
row_of {r} i j h = mul-add-div (omega arith) i j ∙ rw (div-eq_of_lt h, add-zero)

pub place_of : {r : ℕ} (i j : ℕ) → j < r → (r * i + j) % r ≡ j
place_of {r} i j h = mul-add-mod_self_left r i j ∙ mod-eq_of_lt h

-- c is so many full rows of r and a rest of at most r, which is 0 only if there is no full row
pub record Split (r c : ℕ) : Type 0 where
  pub full : ℕ
  pub rest : ℕ
  pub sum : c ≡ r * full + rest
  pub small : rest ≤ r
  pub some : (0 < rest) ⊎ (full ≡ 0)

-- every number is split so
pub split : {r : ℕ} (c : ℕ) → 0 < r → Split r c
split {r} zero h = record { full = 0; rest = 0; sum = rw mul-zero; small = omega arith; some = inr refl }
split {r} (suc k) h =
    record {
      full = k / r;
      rest = suc (k % r);
      sum = omega (arith, div-add-mod k r);
      small = mod-lt k h;
      some = inl (omega arith);
    }
