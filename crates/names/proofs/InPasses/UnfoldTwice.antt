-- Replacing some names first, and those that are left after that, is replacing all at once.
-- Assumes nothing.
use Prim.Native.Nat.{◌+◌, ◌≤◌, suc, ℕ}
use lib.Dec.{eqb}
use lib.ListN.{length, length-map}
use mathlib.Core.Bool.{Bool, false}
use mathlib.Core.List.{List, [], ◌∷◌, map}
use mathlib.Core.Path.{◌∙◌, ◌≡◌, ap, refl}
use native.Mathlib.Omega.{arith}
use Rattle.base.proofs.Tests.{bool_cases, eq-cases, eq-eqb, eqb-eq, eqb-self, ne_eqb, tests}
use Rattle.blocks.specs.Entries.{is_named}
use Rattle.blocks.specs.declared.Entry.{Entry}
use Rattle.names.proofs.Entries.Numbers.{Numbering, numbering-entry, numbering-name, numbering-top, owning, owning-none, owning-other, top_owns}
use Rattle.names.proofs.Entries.OwnerSteps.{Owners, name-owns-none, unfold-entry, unfold-name}
use Rattle.names.proofs.Entries.OwnersByNumber.{owners-of-numbers}
use Rattle.names.proofs.InPasses.MovedUnfolding.{after, after_same, unfold-append, unfold-ext, unfold-in, unfold-out}
use Rattle.names.specs.Promise.{OwnersOk}
use Rattle.names.specs.Unfold.{noted, owned_by, relocate, shifted, unfold_from, unfolded}

module _ (S T : ℕ → List Entry) (legal : (n : ℕ) → Owners top_owns 1 (S n)) where
  -- what a name stands for in the end
  abbrev both : ℕ → List Entry
  both n = unfolded T (S n)

  -- the contents of a name that stand later are unfolded as such
  block : (ν : ℕ → ℕ) (m o m₂ n : ℕ) → o ≤ m → unfold_from T ν (suc m) m₂ (map (relocate m o) (S n)) ≡ map (relocate m₂ (ν o)) (both n)
  unfolding unfolded
  block ν m o m₂ n l =
      let e : suc m ≡ m + 1 = omega arith in
      let z : m₂ ≡ m₂ + 0 = omega arith in
      ap (λ (k : ℕ). unfold_from T ν k m₂ (map (relocate m o) (S n))) e
      ∙ unfold-in T m o l ν 1 m₂ (omega arith) (S n)
      ∙ unfold-ext T top_owns (λ j. ν (shifted m o j)) (λ j. shifted m₂ (ν o) j) 1 m₂ (S n) (legal n) (λ j h. let q : j ≡ 0 = eqb-eq h in rw q)
      ∙ ap (λ (i : ℕ). unfold_from T (λ j. shifted m₂ (ν o) j) 1 i (S n)) z
      ∙ unfold-out T m₂ (ν o) (λ j. j) 1 0 (S n)

  unfold-twice-from : (own : ℕ → Bool) (ν₁ ν₂ : ℕ → ℕ) (k m m₂ : ℕ) (es : List Entry) → Owners own k es → Numbering own ν₁ k m
      → unfold_from T ν₂ (suc m) m₂ (unfold_from S ν₁ k m es) ≡ unfold_from both (λ j. ν₂ (ν₁ j)) k m₂ es
  unfolding unfold_from
  unfold-twice-from own ν₁ ν₂ k m m₂ [] w N = refl
  unfold-twice-from own ν₁ ν₂ k m m₂ (e ∷ es) w N =
      let o : ℕ = e.owner in
      bool_cases (is_named e)
      (λ q.
      let n : ℕ = length (S e.name) in
      let none = name-owns-none e q in
      let X = map (relocate m (ν₁ o)) (S e.name) in
      let Y = unfold_from S ν₁ (suc k) (m + n) es in
      let U = both e.name in
      let ν₃ = after T ν₂ (suc m) m₂ X in
      let here : unfold_from T ν₂ (suc m) m₂ X ≡ map (relocate m₂ (ν₂ (ν₁ o))) U = block ν₂ m (ν₁ o) m₂ e.name (N.bound o w.0) in
      let size : suc m + length X ≡ suc (m + n) = omega (arith, length-map (S e.name) (relocate m (ν₁ o))) in
      let more : m₂ + length (unfold_from T ν₂ (suc m) m₂ X) ≡ m₂ + length U
      = ap (λ (l : List Entry). m₂ + length l) here ∙ rw (length-map U (relocate m₂ (ν₂ (ν₁ o)))) in
      let rest : unfold_from T ν₃ (suc (m + n)) (m₂ + length U) Y ≡ unfold_from both (λ j. ν₂ (ν₁ j)) (suc k) (m₂ + length U) es =
      unfold-twice-from (owning own k e) ν₁ ν₃ (suc k) (m + n) (m₂ + length U) es w.1 (numbering-name N n e none)
      ∙ unfold-ext both (owning own k e) (λ j. ν₃ (ν₁ j)) (λ j. ν₂ (ν₁ j)) (suc k) (m₂ + length U) es w.1
      (λ j h. after_same T ν₂ (suc m) m₂ X (ν₁ j) (omega (arith, N.bound j (owning-none own k e j none h)))) in
      rw (unfold-name S ν₁ k m e es q, unfold-name both (λ j. ν₂ (ν₁ j)) k m₂ e es q)
      (unfold-append T ν₂ (suc m) m₂ X Y ∙ rw (size, more, here, rest)))
      (λ q.
      let rest : unfold_from T (noted ν₂ (suc m) (suc m₂)) (suc (suc m)) (suc m₂) (unfold_from S (noted ν₁ k (suc m)) (suc k) (suc m) es)
      ≡ unfold_from both (noted (λ j. ν₂ (ν₁ j)) k (suc m₂)) (suc k) (suc m₂) es =
      unfold-twice-from (owning own k e) (noted ν₁ k (suc m)) (noted ν₂ (suc m) (suc m₂)) (suc k) (suc m) (suc m₂) es w.1 (numbering-entry N e)
      ∙ unfold-ext both (owning own k e) (λ j. noted ν₂ (suc m) (suc m₂) (noted ν₁ k (suc m) j)) (noted (λ j. ν₂ (ν₁ j)) k (suc m₂)) (suc k) (suc m₂) es w.1
      (λ j h. eq-cases j k
      (λ p. rw (eq-eqb p, eqb-self (suc m)))
      (λ p.
      let b = N.bound j (owning-other own k e j (ne_eqb p) h) in
      let z : eqb (ν₁ j) (suc m) ≡ false = omega tests in
      rw (ne_eqb p, z))) in
      rw (unfold-entry S ν₁ k m e es q, unfold-entry both (λ j. ν₂ (ν₁ j)) k m₂ e es q)
      (unfold-entry T ν₂ (suc m) m₂ (owned_by (ν₁ o) e) (unfold_from S (noted ν₁ k (suc m)) (suc k) (suc m) es) q ∙ rw rest))

-- replacing names by S, and those that are left then by T, is replacing names by S unfolded by T
pub unfold-twice : (S T : ℕ → List Entry) → ((n : ℕ) → OwnersOk (S n)) → (es : List Entry) → OwnersOk es
    → unfolded T (unfolded S es) ≡ unfolded (λ n. unfolded T (S n)) es
unfolding unfolded
unfold-twice S T s es w =
    unfold-twice-from S T (λ n. owners-of-numbers (S n) (s n)) top_owns (λ j. j) (λ j. j) 1 0 0 es (owners-of-numbers es w) numbering-top
