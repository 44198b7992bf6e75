-- The properties that stand in a list of pairs: each once, in ascending order, and all that some property excludes.
-- Assumes nothing.
use Prim.Native.Nat.{◌≤◌, suc, zero, ℕ}
use lib.Dec.{eqb}
use mathlib.Core.Bool.{false, true}
use mathlib.Core.List.{List}
use mathlib.Core.Path.{◌∙◌, ◌≡◌}
use native.Mathlib.Omega.{arith}
use Rattle.base.proofs.Missing.{not-true}
use Rattle.base.proofs.Tests.{bool_cases, both_ways, eq-cases, eq-eqb, eqb-self, neither_left, neither_right, or_left, or_right}
use Rattle.logic.proofs.SpecimenTrees.IncreasingNames.{Increasing, once-increasing}
use Rattle.logic.proofs.SpecimenTrees.Names.{member-once}
use Rattle.logic.specs.Witness.{member, once}
use Rattle.meaning.proofs.Descriptions.EntryFields.{Positive}
use Rattle.narrow_listed.specs.Listed.{names_from, names_in}
use Rattle.pairs.proofs.Excluding.{none-excludes, pair-cases}
use Rattle.pairs.proofs.PairsAccepted.{pairs-right}
use Rattle.pairs.specs.Pairs.{excludes_in, one_of, other_of, pair_count, pair_wrong, pairs_reading}
use Rattle.std.specs.Prelude.{Ok}

module _ (P : List ℕ) where
  pub names-ascend : (n : ℕ) → Increasing 0 (names_from P n)
  unfolding names_from
  names-ascend zero = tt
  names-ascend (suc n) = once-increasing (one_of P (suc n)) _ (once-increasing (other_of P (suc n)) _ (names-ascend n))

  names-member : (n i : ℕ) → 1 ≤ i → i ≤ n → (member (one_of P i) (names_from P n) ≡ true)
      × (member (other_of P i) (names_from P n) ≡ true)
  unfolding names_from
  names-member zero i lo hi = absurd (omega arith)
  names-member (suc n) i lo hi =
      let a = one_of P (suc n) in
      let c = other_of P (suc n) in
      let first : (x : ℕ) → member x (names_from P n) ≡ true → member x (names_from P (suc n)) ≡ true =
      λ x h. later n x h in
      eq-cases i (suc n)
      (λ z. rw z (new-one n, new-other n))
      (λ z. let ih = names-member n i lo (omega arith) in (first (one_of P i) ih.0, first (other_of P i) ih.1))
    where
      later : (n x : ℕ) → member x (names_from P n) ≡ true → member x (names_from P (suc n)) ≡ true
      later n x h =
          member-once x (one_of P (suc n)) (once (other_of P (suc n)) (names_from P n))
          ∙ or_right (eqb x (one_of P (suc n)))
          (member-once x (other_of P (suc n)) (names_from P n) ∙ or_right (eqb x (other_of P (suc n))) h)

      new-one : (n : ℕ) → member (one_of P (suc n)) (names_from P (suc n)) ≡ true
      new-one n = member-once (one_of P (suc n)) (one_of P (suc n)) _ ∙ or_left _ (eqb-self (one_of P (suc n)))

      new-other : (n : ℕ) → member (other_of P (suc n)) (names_from P (suc n)) ≡ true
      new-other n =
          member-once (other_of P (suc n)) (one_of P (suc n)) _
          ∙ or_right (eqb (other_of P (suc n)) (one_of P (suc n)))
          (member-once (other_of P (suc n)) (other_of P (suc n)) _ ∙ or_left _ (eqb-self (other_of P (suc n))))

  -- what some property excludes stands in the list
  pub excluded-named : (p q : ℕ) → excludes_in P q p ≡ true → member p (names_in P) ≡ true
  unfolding names_in
  excluded-named p q e =
      bool_cases (member p (names_from P (pair_count P)))
      (λ z. z)
      (λ z. both_ways e (none-excludes P q p (λ i lo hi.
      let m = names-member (pair_count P) i lo hi in
      not-true (λ t. pair-cases P q p i t
      (λ a b. both_ways m.1 (rw b z))
      (λ a b. both_ways m.0 (rw a z))))))

  -- and is a property
  pub excluded-positive : {n : ℕ} → pairs_reading P ≡ Ok n → (p q : ℕ) → excludes_in P q p ≡ true → Positive p
  unfolding pair_wrong pair_count
  excluded-positive r p q e =
      let R = pairs-right P r in
      eq-cases p 0
      (λ z. both_ways e (none-excludes P q p (λ i lo hi.
      let w : pair_wrong P i ≡ false = R.right i lo (omega (arith, R.whole)) in
      not-true (λ t. pair-cases P q p i t
      (λ a b. both_ways (eq-eqb (b ∙ z))
      (neither_left (eqb (other_of P i) 0) _ (neither_right (eqb (one_of P i) 0) _ w)))
      (λ a b. both_ways (eq-eqb (a ∙ z)) (neither_left (eqb (one_of P i) 0) _ w))))))
      (λ z. omega arith)
