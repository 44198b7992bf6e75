-- Levels put in at a depth, and the levels of moved entries.
-- Assumes nothing.
use Prim.Native.Nat.{◌+◌, ◌<◌, ◌≤◌, max, suc, zero, ℕ}
use lib.Dec.{eqb}
use lib.ListN.{length}
use mathlib.Core.Bool.{Bool, cond, false, true}
use mathlib.Core.List.{List, [], ◌++◌, ◌∷◌, map}
use mathlib.Core.Path.{◌∙◌, ◌≡◌, refl}
use native.Mathlib.Nat.{add-zero}
use native.Mathlib.Omega.{arith}
use Rattle.base.proofs.Tests.{eq-cases, eqb-self, lt-cases, ne_eqb, tests}
use Rattle.blocks.specs.Entries.{is_named}
use Rattle.blocks.specs.declared.Entry.{Entry}
use Rattle.names.proofs.Entries.Numbers.{owning, owning-other, shifted-is, shifted-later}
use Rattle.names.proofs.Entries.OwnerSteps.{Owners}
use Rattle.names.specs.Measures.{levels_from, under}
use Rattle.names.specs.Unfold.{noted, relocate, shifted}

-- ---- depths

pub under-max : (d a b : ℕ) → under d (max a b) ≡ max (under d a) (under d b)
under-max d zero b = let z : max zero b ≡ b = omega arith in rw z (omega arith)
under-max d (suc a) zero = let z : max (suc a) zero ≡ suc a = omega arith in rw z (omega arith)
under-max d (suc a) (suc b) =
    lt-cases a b
    (λ l. let z : max (suc a) (suc b) ≡ suc b = omega arith in rw z (omega arith))
    (λ l. let z : max (suc a) (suc b) ≡ suc a = omega arith in rw z (omega arith))

pub under-under : (d d' l : ℕ) → under d (under d' l) ≡ under (d + d') l
under-under d d' zero = refl
under-under d d' (suc l) = let z : d' + suc l ≡ suc (d' + l) = omega arith in rw z (omega arith)

pub under_none : (l : ℕ) → under 0 l ≡ l
under_none zero = refl
under_none (suc l) = omega arith

-- ---- lists

-- the depths below owners after some entries
unfoldable pub depths_after : (ℕ → ℕ) → ℕ → List Entry → ℕ → ℕ
depths_after δ k [] = δ
depths_after δ k (e ∷ es) = depths_after (noted δ k (suc (δ e.owner))) (suc k) es

-- those of earlier owners stay
pub depths-same : (δ : ℕ → ℕ) (k : ℕ) (es : List Entry) (j : ℕ) → j < k → depths_after δ k es j ≡ δ j
unfolding depths_after
depths-same δ k [] j l = refl
depths-same δ k (e ∷ es) j l =
    let z : eqb j k ≡ false = omega tests in depths-same (noted δ k (suc (δ e.owner))) (suc k) es j (omega arith) ∙ rw z

module _ (L : ℕ → ℕ) where
  -- entries in a row
  pub levels-append : (δ : ℕ → ℕ) (k : ℕ) (xs ys : List Entry)
      → levels_from L δ k (xs ++ ys) ≡ max (levels_from L δ k xs) (levels_from L (depths_after δ k xs) (k + length xs) ys)
  unfolding levels_from depths_after
  levels-append δ k [] ys = rw add-zero (omega arith)
  levels-append δ k (e ∷ xs) ys =
      let z : k + suc (length xs) ≡ suc k + length xs = omega arith in
      rw (levels-append (noted δ k (suc (δ e.owner))) (suc k) xs ys, z) (omega arith)

  -- moved entries stand deeper by what they were put in below
  pub levels-moved : (d m o : ℕ) (own : ℕ → Bool) (δ δ' : ℕ → ℕ) (k : ℕ) (xs : List Entry) → o ≤ m → 1 ≤ k → Owners own k xs
      → ((j : ℕ) → own j ≡ true → δ' (shifted m o j) ≡ d + δ j) → ((j : ℕ) → own j ≡ true → j < k)
      → levels_from L δ' (m + k) (map (relocate m o) xs) ≡ under d (levels_from L δ k xs)
  unfolding levels_from
  levels-moved d m o own δ δ' k [] b pos w h early = refl
  levels-moved d m o own δ δ' k (e ∷ xs) b pos w h early =
      let here : δ' (shifted m o e.owner) ≡ d + δ e.owner = h e.owner w.0 in
      let x : ℕ = cond (is_named e) (L e.name) 1 in
      let next : suc (m + k) ≡ m + suc k = omega arith in
      let more : suc (d + δ e.owner) ≡ d + suc (δ e.owner) = omega arith in
      let ih = levels-moved d m o (owning own k e) (noted δ k (suc (δ e.owner))) (noted δ' (m + k) (d + suc (δ e.owner))) (suc k) xs b (omega arith) w.1
      (λ j g. eq-cases j k
      (λ q. rw (q, eqb-self k, shifted-later m o k pos, eqb-self (m + k)))
      (λ q. let z : eqb (shifted m o j) (m + k) ≡ false = shifted-is m o j k b pos ∙ ne_eqb q in rw (ne_eqb q, z) (h j (owning-other own k e j (ne_eqb q) g))))
      (λ j g. eq-cases j k (λ q. omega arith) (λ q. omega (arith, early j (owning-other own k e j (ne_eqb q) g)))) in
      rw (here, next, more, ih, under-max d (under (δ e.owner) x) (levels_from L (noted δ k (suc (δ e.owner))) (suc k) xs), under-under d (δ e.owner) x)
