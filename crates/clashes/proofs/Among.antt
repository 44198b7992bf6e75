-- Tests that one of the first entries passes: which one, and one entry more.
-- Assumes nothing.
use Prim.Native.Nat.{◌≤◌, suc, zero, ℕ}
use mathlib.Core.Bool.{Bool, false, true}
use mathlib.Core.List.{List}
use mathlib.Core.Path.{◌≡◌, refl}
use native.Mathlib.Omega.{arith}
use Rattle.base.proofs.Tests.{both_ways, eq-cases, or_cases, or_left, or_right}
use Rattle.blocks.specs.Entries.{nth}
use Rattle.blocks.specs.declared.Entry.{Entry}
use Rattle.clashes.specs.Clash.{one_of_first}

-- one of the first n that passes
pub record Among (f : Entry → Bool) (es : List Entry) (n : ℕ) : Type 0 where
  pub at : ℕ
  pub from : 1 ≤ at
  pub to : at ≤ n
  pub passes : f (nth es at) ≡ true

module _ (f : Entry → Bool) (es : List Entry) where
  pub one_none : one_of_first f es 0 ≡ false
  unfolding one_of_first
  one_none = refl

  -- an entry that fails alters nothing
  pub one_more : (n : ℕ) → f (nth es (suc n)) ≡ false → one_of_first f es (suc n) ≡ one_of_first f es n
  unfolding one_of_first
  one_more n h = rw h

  pub one-among : (n : ℕ) → one_of_first f es n ≡ true → Among f es n
  unfolding one_of_first
  one-among zero t = both_ways t refl
  one-among (suc n) t =
      or_cases (f (nth es (suc n))) (one_of_first f es n) t
      (λ h. record { at = suc n; from = omega arith; to = omega arith; passes = h })
      (λ h. let a = one-among n h in record { at = a.at; from = a.from; to = omega (arith, a.to); passes = a.passes })

  one_at : (n k : ℕ) → 1 ≤ k → k ≤ n → f (nth es k) ≡ true → one_of_first f es n ≡ true
  unfolding one_of_first
  one_at zero k lo hi h = absurd (omega arith)
  one_at (suc n) k lo hi h =
      eq-cases k (suc n)
      (λ z. or_left _ (rw z at h))
      (λ z. or_right (f (nth es (suc n))) (one_at n k lo (omega arith) h))

  pub among_one : (n : ℕ) → Among f es n → one_of_first f es n ≡ true
  among_one n a = one_at n a.at a.from a.to a.passes

-- where each entry fails, none passes
pub one-never : (f : Entry → Bool) (es : List Entry) (n : ℕ) → ((e : Entry) → f e ≡ false) → one_of_first f es n ≡ false
unfolding one_of_first
one-never f es zero h = refl
one-never f es (suc n) h = rw (h (nth es (suc n))) (one-never f es n h)
