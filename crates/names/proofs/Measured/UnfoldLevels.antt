-- The levels of an unfolded description.
-- Assumes nothing.
use Prim.Native.Nat.{◌+◌, suc, ℕ}
use lib.Dec.{eqb}
use lib.ListN.{length, length-map}
use mathlib.Core.Bool.{Bool, false, true}
use mathlib.Core.List.{List, [], ◌∷◌, map}
use mathlib.Core.Path.{◌≡◌, refl}
use native.Mathlib.Omega.{arith}
use Rattle.base.proofs.Tests.{bool_cases, eq-cases, eq-eqb, eqb-eq, eqb-self, ne_eqb, tests}
use Rattle.blocks.specs.Entries.{is_named}
use Rattle.blocks.specs.declared.Entry.{Entry}
use Rattle.names.proofs.Entries.Numbers.{Numbering, numbering-entry, numbering-name, numbering-top, owning, owning-none, owning-other, top_owns}
use Rattle.names.proofs.Entries.OwnerSteps.{Owners, name-owns-none, unfold-entry, unfold-name}
use Rattle.names.proofs.Measured.LevelSteps.{depths-same, depths_after, levels-append, levels-moved}
use Rattle.names.specs.Measures.{levels_by, levels_from, under}
use Rattle.names.specs.Unfold.{noted, relocate, unfold_from, unfolded}

module _ (L : ℕ → ℕ) (T : ℕ → List Entry) (legal : (n : ℕ) → Owners top_owns 1 (T n)) where
  -- the levels of the contents of a name
  abbrev within : ℕ → ℕ
  within n = levels_by L (T n)

  levels-from : (own : ℕ → Bool) (ν δ δ' : ℕ → ℕ) (k m : ℕ) (es : List Entry) → Owners own k es → Numbering own ν k m
      → ((j : ℕ) → own j ≡ true → δ' (ν j) ≡ δ j) → levels_from L δ' (suc m) (unfold_from T ν k m es) ≡ levels_from within δ k es
  unfolding unfold_from levels_from
  levels-from own ν δ δ' k m [] w N h = refl
  levels-from own ν δ δ' k m (e ∷ es) w N h =
      let o : ℕ = e.owner in
      let here : δ' (ν o) ≡ δ o = h o w.0 in
      bool_cases (is_named e)
      (λ q.
      let n : ℕ = length (T e.name) in
      let none = name-owns-none e q in
      let xs : List Entry = map (relocate m (ν o)) (T e.name) in
      let ys : List Entry = unfold_from T ν (suc k) (m + n) es in
      let size : suc m + length xs ≡ suc (m + n) = omega (arith, length-map (T e.name) (relocate m (ν o))) in
      let next : m + 1 ≡ suc m = omega arith in
      let first : levels_from L δ' (suc m) xs ≡ under (δ o) (within e.name) = rw next at
      (levels-moved L (δ o) m (ν o) top_owns (λ j. 0) δ' 1 (T e.name) (N.bound o w.0) (omega arith) (legal e.name)
      (λ j g. let z : j ≡ 0 = eqb-eq g in rw (z, here) (omega arith)) (λ j g. omega tests)) in
      let rest : levels_from L (depths_after δ' (suc m) xs) (suc (m + n)) ys ≡ levels_from within (noted δ k (suc (δ o))) (suc k) es
      = levels-from (owning own k e) ν (noted δ k (suc (δ o))) (depths_after δ' (suc m) xs) (suc k) (m + n) es w.1 (numbering-name N n e none)
      (λ j g.
      let old = owning-none own k e j none g in
      let jk : eqb j k ≡ false = omega (tests, N.early j old) in
      rw (jk, depths-same δ' (suc m) xs (ν j) (omega (arith, N.bound j old))) (h j old)) in
      unfold levels_from in
      rw (unfold-name T ν k m e es q, levels-append L δ' (suc m) xs ys, size, first, rest, q))
      (λ q.
      let rest = levels-from (owning own k e) (noted ν k (suc m)) (noted δ k (suc (δ o))) (noted δ' (suc m) (suc (δ o))) (suc k) (suc m) es w.1 (numbering-entry N e)
      (λ j g. eq-cases j k
      (λ p. rw (eq-eqb p, eqb-self (suc m)))
      (λ p.
      let old = owning-other own k e j (ne_eqb p) g in
      let z : eqb (ν j) (suc m) ≡ false = omega (tests, N.bound j old) in
      rw (ne_eqb p, z) (h j old))) in
      rw (unfold-entry T ν k m e es q, q, here, rest))

  -- its levels are worked out from those of the contents
  pub unfold-levels : (es : List Entry) → Owners top_owns 1 es → levels_by L (unfolded T es) ≡ levels_by within es
  unfolding unfolded
  unfold-levels es w = levels-from top_owns (λ j. j) (λ j. 0) (λ j. 0) 1 0 es w numbering-top (λ j h. refl)
