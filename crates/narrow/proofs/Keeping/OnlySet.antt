-- The set that leaving out from the last to the first finds is the only one of which each number passes the test of its
-- turn; and what any set may lose may be lost before it begins.
-- Assumes nothing.
use Prim.Native.Nat.{suc, zero, ℕ}
use lib.Dec.{eqb}
use mathlib.Core.Bool.{Bool, ◌&&◌, false, not, true}
use mathlib.Core.Path.{◌∙◌, ◌≡◌, ap, fun_ext, refl, sym}
use Rattle.base.proofs.Tests.{bool_cases, eq-cases, ne_eqb}
use Rattle.narrow.specs.Keeping.{keep_from, without}

module _ (P : (ℕ → Bool) → Bool) (F : ℕ → Bool) where
  -- a set without what may always be lost
  abbrev pub within : (ℕ → Bool) → ℕ → Bool
  within K k = K k && F k

  -- leaving out n and keeping to F may come in either order
  swapped : (n : ℕ) (K : ℕ → Bool) → within (without n K) ≡ without n (within K)
  swapped n K = fun_ext (λ k. swap (K k) (not (eqb k n)) (F k))
    where
      swap : (a e f : Bool) → ((a && e) && f) ≡ ((a && f) && e)
      swap true true true = refl
      swap true true false = refl
      swap true false true = refl
      swap true false false = refl
      swap false e f = refl

  -- what is not of F may go at once
  absent : (n : ℕ) (K : ℕ → Bool) → F n ≡ false → without n (within K) ≡ within K
  absent n K e = fun_ext (λ k. eq-cases k n (λ z. rw (z, e) (gone (K n) (not (eqb n n)))) (λ z. rw (ne_eqb z) (stay (K k && F k))))
    where
      gone : (a c : Bool) → ((a && false) && c) ≡ (a && false)
      gone true c = refl
      gone false c = refl

      stay : (a : Bool) → (a && true) ≡ a
      stay true = refl
      stay false = refl

  module _ (same : (K : ℕ → Bool) → P (within K) ≡ P K) where
    -- the fold that begins within F ends as the other does, within F
    pub fold-within : (n : ℕ) (K : ℕ → Bool) → P K ≡ true → keep_from P n (within K) ≡ within (keep_from P n K)
    unfolding keep_from
    fold-within zero K p = refl
    fold-within (suc n) K p =
        let i : P (without (suc n) (within K)) ≡ P (without (suc n) K) = ap P (sym (swapped (suc n) K)) ∙ same (without (suc n) K) in
        bool_cases (P (without (suc n) K))
        (λ q. rw (q, i ∙ q, ← (swapped (suc n) K)) (fold-within n (without (suc n) K) q))
        (λ q. rw (q, i ∙ q) (fold-within n K p))
