-- The walk along a chain, slot by slot: it ends at 0, and goes on from a slot to the one before it where that is of a lower number.
-- Assumes nothing.
use Rattle.std.proofs.Common.{Some, ◌⊎◌, inl, inr}
use Rattle.std.specs.Iterator.{MakesProgress, item_count}
use Rattle.std.specs.List.{All}
use Rattle.std.proofs.lemmas.List.Elements.{All-cons, All-nil}
use Prim.Native.Nat.{◌-◌, ◌<◌, ◌≤◌, suc, zero, ℕ}
use lib.ListN.{get_or, length}
use mathlib.Core.List.{List, [], ◌∷◌}
use mathlib.Core.Logic.{◌≢◌}
use mathlib.Core.Path.{◌∙◌, ◌≡◌, ap, refl}
use native.Mathlib.Numerals.{sub-one}
use native.Mathlib.Omega.{arith}
use Rattle.base.proofs.Tests.{eq-cases, eq-eqb, eqb-self, ne_eqb}
use Rattle.runs.specs.code.Walked.{chain_down, chain_from}

-- what is read at an equal index
pub read : (l : List ℕ) {i j : ℕ} → i ≡ j → get_or l i 0 ≡ get_or l j 0
read l e = ap (λ (k : ℕ). get_or l k 0) e

module _ (before : List ℕ) where
  -- slots above the first on the chain are not on it
  chain-reaches : (s n : ℕ) → s ≤ n → chain_down before s n ≡ chain_from before s
  unfolding chain_down
  chain-reaches s zero h = let z : s ≡ 0 = omega arith in rw z
  chain-reaches s (suc n) h = eq-cases s (suc n) (λ q. rw q) (λ q. rw (ne_eqb q) (chain-reaches s n (omega arith)))

  -- none is on a chain that begins above them all
  chain-past : (s n : ℕ) → n < s → chain_down before s n ≡ []
  unfolding chain_down
  chain-past s zero h = refl
  chain-past s (suc n) h = rw (ne_eqb {m = s} {n = suc n} (λ q. omega arith)) (chain-past s n (omega arith))

  pub chain-ends : {s : ℕ} → s ≡ 0 → chain_from before s ≡ []
  unfolding chain_down
  chain-ends e = rw e

  -- the first slot on it, and what may follow
  pub chain_first : (s : ℕ) → s ≢ 0 → chain_from before s ≡ s ∷ chain_down before (get_or before s 0) (s - 1)
  unfolding chain_down
  chain_first zero z = absurd (z refl)
  chain_first (suc s) z = rw (eqb-self (suc s), sub-one)

  pub chain-goes : (s : ℕ) {b : ℕ} → s ≢ 0 → b ≡ get_or before s 0 → b < s → chain_from before s ≡ s ∷ chain_from before b
  chain-goes s {b} z e h = chain_first s z ∙ rw (← e) (ap (λ (l : List ℕ). s ∷ l) (chain-reaches b (s - 1) (omega arith)))

  -- among the slots up to a number: none where the first is 0 or above it, and else the first and those behind it
  pub chain-none : {s n : ℕ} → (s ≡ 0) ⊎ (n < s) → chain_down before s n ≡ []
  chain-none {s} {n} (inl z) = chain-reaches s n (omega arith) ∙ chain-ends z
  chain-none {s} {n} (inr h) = chain-past s n h

  pub chain-next : {s n : ℕ} → s ≢ 0 → s ≤ n → {b m : ℕ} → b ≡ get_or before s 0 → m ≡ s - 1 → chain_down before s n ≡ s ∷ chain_down before b m
  chain-next {s} {n} z h e f = chain-reaches s n h ∙ chain_first s z ∙ rw (e, f)

  -- a chain has no more slots than the number of its first, and none above it
  chain-few : (s n : ℕ) → length (chain_down before s n) ≤ n
  unfolding chain_down
  chain-few s zero = omega arith
  chain-few s (suc n) =
      eq-cases s (suc n)
      (λ q. rw (eq-eqb q) (omega (arith, chain-few (get_or before (suc n) 0) n)))
      (λ q. rw (ne_eqb q) (omega (arith, chain-few s n)))

  pub length-chain : (s : ℕ) → length (chain_from before s) ≤ s
  length-chain s = chain-few s s

  chain-low : (s n m : ℕ) → n < m → All (λ k. k < m) (chain_down before s n)
  unfolding chain_down
  chain-low s zero m h = All-nil (λ k. k < m)
  chain-low s (suc n) m h =
      eq-cases s (suc n)
      (λ q. rw (eq-eqb q) (All-cons (λ k. k < m) (suc n) (chain_down before (get_or before (suc n) 0) n) h (chain-low (get_or before (suc n) 0) n m (omega arith))))
      (λ q. rw (ne_eqb q) (chain-low s n m (omega arith)))

  pub chain-inside : (s m : ℕ) → s ≤ m - 1 → All (λ k. k < m) (chain_from before s)
  chain-inside s m h =
      eq-cases s 0 (λ q. rw (chain-ends q) (All-nil (λ k. k < m))) (λ q. chain-low s s m (omega arith))

-- fewer are left after each
pub slots-fall : (can : List ℕ → Type 0) → ((l : List ℕ) → can l) → (l m : List ℕ) (x : ℕ) → l ≡ x ∷ m
    → MakesProgress can (item_count (λ slots. slots)) l (Some x) m
slots-fall can always l m x e = record {
  on = λ _. (always m, tt, rw e (omega arith));
  keeps = always m;
  rests = λ _. tt;
}
