-- Further laws of tests, and case splits on a value that may be missing.
-- Assumes nothing.
use Prim.Native.Nat.{ℕ}
use mathlib.Core.Bool.{Bool, ◌&&◌, ◌||◌, and-false, false, true}
use mathlib.Core.Option.{Option, none, some}
use mathlib.Core.Path.{◌∙◌, ◌≡◌, refl, sym}
use native.Mathlib.Omega.{arith}

-- ---- a value that may be missing

pub opt_cases {ℓ} : {A : Type ℓ} (o : Option ℕ) → (o ≡ none → A) → ((m : ℕ) → o ≡ some m → A) → A
opt_cases none f g = f refl
opt_cases (some m) f g = g m refl

-- a value is not missing
pub some-none {ℓ} : {A : Type ℓ} {o : Option ℕ} {m : ℕ} → o ≡ some m → o ≡ none → A
some-none p q = let z : ◌≡◌ {A = ℕ} 0 1 = cc in absurd (omega arith)

-- ---- tests

pub not-true : {b : Bool} → (b ≡ true → ⊥) → b ≡ false
not-true {b = true} f = absurd (f refl)
not-true {b = false} f = refl

-- a part that the rest implies may go
pub and-drop : {a b : Bool} → (b ≡ true → a ≡ true) → (a && b) ≡ b
and-drop {a = true} {b} f = refl
and-drop {a = false} {b = true} f = f refl
and-drop {a = false} {b = false} f = refl

-- parts that are equal where the other passes
pub and-cong : (a : Bool) {b c : Bool} → (a ≡ true → b ≡ c) → (a && b) ≡ (a && c)
and-cong true f = f refl
and-cong false f = refl

pub and-cong-left : {a b c : Bool} → (c ≡ true → a ≡ b) → (a && c) ≡ (b && c)
and-cong-left {a} {b} {c = true} f = rw (f refl)
and-cong-left {a} {b} {c = false} f = and-false a ∙ sym (and-false b)

-- two tests that never pass together
pub and-never : {a b : Bool} → (a ≡ true → b ≡ true → ⊥) → (a && b) ≡ false
and-never {a = true} {b = true} f = absurd (f refl refl)
and-never {a = true} {b = false} f = refl
and-never {a = false} {b} f = refl

-- two tests in the other order, before further ones
pub or_swap : (a b c : Bool) → (a || (b || c)) ≡ (b || (a || c))
or_swap true true c = refl
or_swap true false c = refl
or_swap false b c = refl
