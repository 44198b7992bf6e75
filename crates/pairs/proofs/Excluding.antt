-- Which properties exclude each other under a list: those of its pairs, both ways, and none itself where the list is right.
-- Assumes nothing.
use Prim.Native.Nat.{◌≤◌, ℕ}
use lib.Dec.{eqb}
use mathlib.Core.Bool.{◌&&◌, false, not, or_comm, true}
use mathlib.Core.List.{List}
use mathlib.Core.Logic.{◌≢◌}
use mathlib.Core.Path.{◌∙◌, ◌≡◌, ap, sym}
use native.Mathlib.Omega.{arith}
use Rattle.base.proofs.Missing.{not-true}
use Rattle.base.proofs.RangeLaws.{all-at, all-ext, all_of}
use Rattle.base.proofs.Tests.{and_both, and_left, and_right, both_ways, eq-eqb, eqb-eq, eqb-self, neither_right, not-to-false, not-to-true, or_cases, or_left}
use Rattle.pairs.specs.Pairs.{excludes_in, is_pair, one_of, other_of, pair_count, pair_wrong}
use Rattle.pairs.specs.Promise.{RightList}

module _ (P : List ℕ) where
  -- ---- one pair

  pub pair-cases : {A : Type 0} (p q i : ℕ) → is_pair P p q i ≡ true → (one_of P i ≡ p → other_of P i ≡ q → A)
      → (one_of P i ≡ q → other_of P i ≡ p → A) → A
  unfolding is_pair
  pair-cases p q i t f g =
      or_cases _ _ t
      (λ h. f (eqb-eq (and_left _ _ h)) (eqb-eq (and_right (eqb (one_of P i) p) _ h)))
      (λ h. g (eqb-eq (and_left _ _ h)) (eqb-eq (and_right (eqb (one_of P i) q) _ h)))

  -- a pair is its own two properties
  pub own_pair : (i : ℕ) → is_pair P (one_of P i) (other_of P i) i ≡ true
  unfolding is_pair
  own_pair i = or_left _ (and_both (eqb-self (one_of P i)) (eqb-self (other_of P i)))

  pair-unordered : (p q i : ℕ) → is_pair P p q i ≡ is_pair P q p i
  unfolding is_pair
  pair-unordered p q i = or_comm (eqb (one_of P i) p && eqb (other_of P i) q) (eqb (one_of P i) q && eqb (other_of P i) p)

  -- ---- the list

  pub pair-excludes : (p q i : ℕ) → 1 ≤ i → i ≤ pair_count P → is_pair P p q i ≡ true → excludes_in P p q ≡ true
  unfolding excludes_in
  pair-excludes p q i lo hi t =
      not-to-true
      (not-true (λ h. both_ways (all-at (λ k. not (is_pair P p q k)) 1 (pair_count P) h i lo (omega arith)) (not-to-false t)))

  pub none-excludes : (p q : ℕ) → ((i : ℕ) → 1 ≤ i → i ≤ pair_count P → is_pair P p q i ≡ false) → excludes_in P p q ≡ false
  unfolding excludes_in
  none-excludes p q h =
      not-to-false (all_of (λ k. not (is_pair P p q k)) 1 (pair_count P) (λ k lo hi. not-to-true (h k lo (omega arith))))

  -- [S7] a pair has no direction
  pub excludes-turned : (p q : ℕ) → excludes_in P p q ≡ excludes_in P q p
  unfolding excludes_in
  excludes-turned p q = ap not (all-ext _ _ 1 (pair_count P) (λ k lo hi. ap not (pair-unordered p q k)))

  -- ---- a right list

  right-apart : (i : ℕ) → pair_wrong P i ≡ false → one_of P i ≢ other_of P i
  unfolding pair_wrong
  right-apart i h e =
      both_ways (eq-eqb e) (neither_right (eqb (other_of P i) 0) _ (neither_right (eqb (one_of P i) 0) _ h))

  pub excludes-others : {n : ℕ} → RightList P n → (p : ℕ) → excludes_in P p p ≡ false
  unfolding pair_count
  excludes-others R p =
      none-excludes p p
      (λ i lo hi.
      let differ = right-apart i (R.right i lo (omega (arith, R.whole))) in
      not-true (λ t. pair-cases p p i t (λ a b. differ (a ∙ sym b)) (λ a b. differ (a ∙ sym b))))
