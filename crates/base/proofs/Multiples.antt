-- Sums modulo 65,536: which multiples of a difference leave them the same.
-- Assumes nothing.
use Prim.Native.Nat.{◌%◌, ◌*◌, ◌+◌, ◌-◌, ◌/◌, ℕ}
use mathlib.Core.Logic.{◌↔◌}
use mathlib.Core.Path.{◌∙◌, ◌≡◌}
use native.Mathlib.Nat.{div-add-mod, mul-add, mul_assoc, mul-mod_right, mul-sub}
use native.Mathlib.Omega.{arith}
use Rattle.base.specs.Exchange.{difference}

-- two sums that differ by q times two numbers are equal exactly if q times the difference is a multiple of 65,536
pub same-modulo : (s t q m n : ℕ) → s + q * m ≡ t + q * n → (s % 65536 ≡ t % 65536) ↔ ((q * difference m n) % 65536 ≡ 0)
same-modulo s t q m n e =
    let d : q * difference m n ≡ q * m - q * n + (q * n - q * m) = mul-add q (m - n) (n - m) ∙ rw (mul-sub q m n, mul-sub q n m) in
    (λ h. omega (arith, d), λ h. omega (arith, d))

-- r times some number is a multiple of r
multiple : {x : ℕ} (r q : ℕ) → x ≡ r * q → x % r ≡ 0
multiple r q e = rw e (mul-mod_right r q)

-- 4 is a factor of 65,536
four-times : (t : ℕ) → ((4 * t) % 65536 ≡ 0) ↔ (t % 16384 ≡ 0)
four-times t = (λ h. multiple 16384 (4 * t / 65536) (omega (arith, div-add-mod (4 * t) 65536)), λ h. omega arith)

-- 3 is not: 65,536 is 3 times 21,845 and 1
three-times : (t : ℕ) → ((3 * t) % 65536 ≡ 0) ↔ (t % 65536 ≡ 0)
three-times t = (
  λ h. multiple 65536 (t - 21845 * (3 * t / 65536)) (omega (arith, div-add-mod (3 * t) 65536)),
  λ h. multiple 65536 (3 * (t / 65536)) (omega (arith, div-add-mod t 65536)),
)

-- entries of 4 words, and of 3, p entries apart
pub four-words : (p d : ℕ) → ((4 * p * d) % 65536 ≡ 0) ↔ ((p * d) % 16384 ≡ 0)
four-words p d = rw (mul_assoc 4 p d) (four-times (p * d))

pub three-words : (p d : ℕ) → ((3 * p * d) % 65536 ≡ 0) ↔ ((p * d) % 65536 ≡ 0)
three-words p d = rw (mul_assoc 3 p d) (three-times (p * d))
