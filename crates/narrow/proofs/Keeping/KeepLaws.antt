-- Leaving out from the last to the first: what is left passes, and nothing more can be left out, for any test that
-- holds of a set where it holds of a part of it.
-- Assumes nothing.
use Prim.Native.Nat.{◌+◌, ◌≤◌, suc, zero, ℕ}
use lib.Dec.{eqb, leb, ltb}
use mathlib.Core.Bool.{Bool, ◌&&◌, false, not, true}
use mathlib.Core.Path.{◌∙◌, ◌≡◌, ap, fun_ext, refl}
use native.Mathlib.Omega.{arith}
use Rattle.base.proofs.Missing.{not-true}
use Rattle.base.proofs.Tests.{and_both, and_left, and_right, bool_cases, both_ways, eq-cases, eq-eqb, false_of_not, iff-eq, ne_eqb, not-to-true, tests}
use Rattle.narrow.specs.Keeping.{keep_from, without, without_run}

-- each of K is one of L
abbrev pub Part : (ℕ → Bool) → (ℕ → Bool) → Type 0
Part K L = (k : ℕ) → K k ≡ true → L k ≡ true

part-without : (n : ℕ) (K : ℕ → Bool) → Part (without n K) K
part-without n K k e = and_left (K k) (not (eqb k n)) e

without-part : (n : ℕ) (K L : ℕ → Bool) → Part K L → Part (without n K) (without n L)
without-part n K L h k e = and_both (h k (and_left (K k) (not (eqb k n)) e)) (and_right (K k) (not (eqb k n)) e)

module _ (P : (ℕ → Bool) → Bool) where
  -- nothing is put back
  pub kept-part : (n : ℕ) (K : ℕ → Bool) → Part (keep_from P n K) K
  unfolding keep_from
  kept-part zero K k e = e
  kept-part (suc n) K k e =
      bool_cases (P (without (suc n) K))
      (λ q. part-without (suc n) K k (kept-part n (without (suc n) K) k (rw q at e)))
      (λ q. kept-part n K k (rw q at e))

  -- what is left passes
  pub kept-passes : (n : ℕ) (K : ℕ → Bool) → P K ≡ true → P (keep_from P n K) ≡ true
  unfolding keep_from
  kept-passes zero K e = e
  kept-passes (suc n) K e =
      bool_cases (P (without (suc n) K))
      (λ q. rw q (kept-passes n (without (suc n) K) q))
      (λ q. rw q (kept-passes n K e))

  -- what is past n stays as it was
  kept-past : (n : ℕ) (K : ℕ → Bool) (k : ℕ) → suc n ≤ k → keep_from P n K k ≡ K k
  unfolding keep_from
  kept-past zero K k h = refl
  kept-past (suc n) K k h =
      bool_cases (P (without (suc n) K))
      (λ q. rw (q, kept-past n (without (suc n) K) k (omega arith)) (other k K (ne_eqb (λ z. omega arith))))
      (λ q. rw (q, kept-past n K k (omega arith)))
    where
      other : (k : ℕ) (K : ℕ → Bool) → eqb k (suc n) ≡ false → without (suc n) K k ≡ K k
      other k K z = rw z (drop (K k))
        where
          drop : (b : Bool) → (b && true) ≡ b
          drop true = refl
          drop false = refl

  module _ (more : (K L : ℕ → Bool) → Part K L → P K ≡ true → P L ≡ true) where
    -- without any one of those that are left, the test fails
    pub kept-needed : (n : ℕ) (K : ℕ → Bool) (k : ℕ) → 1 ≤ k → k ≤ n → keep_from P n K k ≡ true → P (without k (keep_from P n K)) ≡ false
    unfolding keep_from
    kept-needed zero K k lo hi e = absurd (omega arith)
    kept-needed (suc n) K k lo hi e =
        eq-cases k (suc n)
        (λ z.
        bool_cases (P (without (suc n) K))
        (λ q.
        let y : keep_from P n (without (suc n) K) k ≡ true = rw q at e in
        let w : without (suc n) K k ≡ true = kept-part n (without (suc n) K) k y in
        both_ways (eq-eqb z) (false_of_not (eqb k (suc n)) (and_right (K k) (not (eqb k (suc n))) w)))
        (λ q. rw q (not-true (λ y.
        both_ways (more (without k (keep_from P n K)) (without (suc n) K)
        (rw (← z) (without-part k (keep_from P n K) K (kept-part n K))) y) q))))
        (λ z.
        bool_cases (P (without (suc n) K))
        (λ q. rw q (kept-needed n (without (suc n) K) k lo (omega arith) (rw q at e)))
        (λ q. rw q (kept-needed n K k lo (omega arith) (rw q at e))))

    -- a run of entries that may all go at once goes one by one
    pub keep-run : (a g : ℕ) (K : ℕ → Bool) → P (without_run a (a + g) K) ≡ true → keep_from P (a + g) K ≡ keep_from P a (without_run a (a + g) K)
    unfolding keep_from
    keep-run a zero K e =
        let w : a + 0 ≡ a = omega arith in
        let same : without_run a a K ≡ K
        = fun_ext (λ k. bool_cases (ltb a k && leb k a)
        (λ q. let x = and_left (ltb a k) (leb k a) q in let y = and_right (ltb a k) (leb k a) q in absurd (omega tests))
        (λ q. rw q (keep-all (K k)))) in
        rw (w, same)
      where
        keep-all : (b : Bool) → (b && true) ≡ b
        keep-all true = refl
        keep-all false = refl
    keep-run a (suc g) K e =
        let w : a + suc g ≡ suc (a + g) = omega arith in
        let K' : ℕ → Bool = without (suc (a + g)) K in
        let e' : P (without_run a (suc (a + g)) K) ≡ true = rw w at e in
        let same : without_run a (a + g) K' ≡ without_run a (suc (a + g)) K = fun_ext (λ k. one (K k) k) in
        let small : P K' ≡ true = more (without_run a (suc (a + g)) K) K' (λ k z. inner k z) e' in
        rw w (step (a + g) small ∙ keep-run a g K' (rw same e') ∙ ap (keep_from P a) same)
      where
        step : (n : ℕ) → P (without (suc n) K) ≡ true → keep_from P (suc n) K ≡ keep_from P n (without (suc n) K)
        step n q = rw q

        one : (b : Bool) (k : ℕ) → ((b && not (eqb k (suc (a + g)))) && not (ltb a k && leb k (a + g))) ≡ (b && not (ltb a k && leb k (suc (a + g))))
        one false k = refl
        one true k =
            iff-eq
            (λ z.
            let x : eqb k (suc (a + g)) ≡ false = false_of_not _ (and_left (not (eqb k (suc (a + g)))) (not (ltb a k && leb k (a + g))) z) in
            let y : (ltb a k && leb k (a + g)) ≡ false = false_of_not _ (and_right (not (eqb k (suc (a + g)))) (not (ltb a k && leb k (a + g))) z) in
            not-to-true (not-true (λ v.
            let p = and_left (ltb a k) (leb k (suc (a + g))) v in
            let q = and_right (ltb a k) (leb k (suc (a + g))) v in
            let r : (ltb a k && leb k (a + g)) ≡ true = and_both p (omega tests) in
            both_ways r y)))
            (λ z.
            let y : (ltb a k && leb k (suc (a + g))) ≡ false = false_of_not _ z in
            and_both
            (not-to-true (not-true (λ v. let r : (ltb a k && leb k (suc (a + g))) ≡ true = and_both {a = ltb a k} (omega tests) (omega tests) in both_ways r y)))
            (not-to-true (not-true (λ v.
            let p = and_left (ltb a k) (leb k (a + g)) v in
            let q = and_right (ltb a k) (leb k (a + g)) v in
            let r : (ltb a k && leb k (suc (a + g))) ≡ true = and_both p (omega tests) in both_ways r y))))

        inner : (k : ℕ) → without_run a (suc (a + g)) K k ≡ true → without (suc (a + g)) K k ≡ true
        inner k z =
            let y : (ltb a k && leb k (suc (a + g))) ≡ false = false_of_not _ (and_right (K k) (not (ltb a k && leb k (suc (a + g)))) z) in
            and_both (and_left (K k) (not (ltb a k && leb k (suc (a + g)))) z)
            (not-to-true (not-true (λ v. let r : (ltb a k && leb k (suc (a + g))) ≡ true = and_both {a = ltb a k} (omega tests) (omega tests) in both_ways r y)))
