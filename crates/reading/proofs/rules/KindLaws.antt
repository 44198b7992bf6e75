-- The kinds of the tables, and which of them take any number.
use mathlib.Core.Bool.{Bool, ◌&&◌, ◌||◌, cond, false, not, true}
use mathlib.Core.Logic.{◌≢◌}
use mathlib.Core.Path.{◌∙◌, ◌≡◌}
use native.Mathlib.Omega.{arith}
use Prim.Native.Nat.{◌*◌, ◌<◌, ◌≤◌, ℕ}
use lib.Dec.{eqb, leb, ltb}
use Rattle.base.proofs.Tests.{and_right, bool_cases, eqb-eq, leb-le, or_cases}
use Rattle.base.specs.Range.{bit}
use Rattle.blocks.specs.Entries.{kind_ok, number_ok}
use Rattle.blocks.specs.declared.Schema.{Schema}

-- no kind is above 9
pub kind-few : (σ : Schema) (k : ℕ) → kind_ok σ k ≡ true → k ≤ 9
kind-few Schema.Description k h = omega (arith, leb-le {m = k} {n = 6} (and_right (ltb 0 k) (leb k 6) h))
kind-few Schema.Specimen k h = or_cases (eqb k 1) (eqb k 7) h (λ q. omega (arith, eqb-eq {m = k} {n = 1} q)) (λ q. omega (arith, eqb-eq {m = k} {n = 7} q))
kind-few (Schema.Named most) k h = or_cases (eqb k 9) (ltb 0 k && leb k 6) h (λ q. omega (arith, eqb-eq {m = k} {n = 9} q)) (λ q. omega (arith, leb-le {m = k} {n = 6} (and_right (ltb 0 k) (leb k 6) q)))

-- a kind that takes 0 only
pub one-pinned : (k : ℕ) → eqb k 3 ≡ false → eqb k 4 ≡ false → eqb k 7 ≡ false → 1 ≡ bit (not (eqb k 3 || (eqb k 4 || eqb k 7)))
one-pinned k a b c = rw (a, b, c)

-- nothing is left of a number below 8 that is none of them
past_three : (m : ℕ) → m ≢ 0 → m ≢ 1 → m ≢ 2 → m ≢ 3 → 4 ≤ m
past_three m a b c d = omega arith

past-seven : (m : ℕ) → m < 8 → 4 ≤ m → m ≢ 4 → m ≢ 5 → m ≢ 6 → m ≢ 7 → ⊥
past-seven m l g a b c d = omega arith

pub none-past : (m : ℕ) → m < 8 → m ≢ 0 → m ≢ 1 → m ≢ 2 → m ≢ 3 → m ≢ 4 → m ≢ 5 → m ≢ 6 → m ≢ 7 → ⊥
none-past m l a b c d = let four : 4 ≤ m = past_three m a b c d in past-seven m l four

-- the test of a number by a product
module _ (k n : ℕ) {p : ℕ} (e : p ≡ bit (not (eqb k 3 || (eqb k 4 || eqb k 7)))) where
  product : (b : Bool) → eqb k 3 || (eqb k 4 || eqb k 7) ≡ b → p * n ≡ cond b 0 n
  product true y = let q : p ≡ 0 = e ∙ rw y in rw q (omega arith)
  product false y = let q : p ≡ 1 = e ∙ rw y in rw q (omega arith)

  pub number_by : eqb (p * n) 0 ≡ number_ok k n
  unfolding number_ok
  number_by = bool_cases (eqb k 3 || (eqb k 4 || eqb k 7)) (λ y. rw (product true y, y)) (λ y. rw (product false y, y))

  pub product_small : p * n ≤ n
  product_small = bool_cases (eqb k 3 || (eqb k 4 || eqb k 7)) (λ y. rw (product true y) (omega arith)) (λ y. rw (product false y) (omega arith))
