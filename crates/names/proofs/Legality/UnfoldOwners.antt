-- The owners of an unfolded description are allowed.
-- Assumes nothing.
use Prim.Native.Nat.{◌+◌, ◌<◌, ◌≤◌, suc, ℕ}
use lib.Dec.{eqb}
use lib.ListN.{length}
use mathlib.Core.Bool.{Bool, ◌&&◌, false, true}
use mathlib.Core.List.{List, [], ◌++◌, ◌∷◌, map}
use mathlib.Core.Path.{◌≡◌}
use native.Mathlib.Nat.{add-zero}
use native.Mathlib.Omega.{arith}
use Rattle.base.proofs.Tests.{and_left, and_right, bool_cases, eqb-eq, eqb-self, or_cases, tests}
use Rattle.blocks.specs.Entries.{is_named}
use Rattle.blocks.specs.declared.Entry.{Entry}
use Rattle.names.proofs.Entries.Numbers.{owning, owning-before, owning-none, shifted-later, top_owns}
use Rattle.names.proofs.Entries.OwnerSteps.{Owners, name-owns-none, unfold-entry, unfold-name}
use Rattle.names.proofs.Entries.OwnersByNumber.{numbers-of-owners, owners-of-numbers}
use Rattle.names.specs.Promise.{OwnersOk}
use Rattle.names.specs.Unfold.{noted, owned_by, relocate, shifted, unfold_from, unfolded}

-- what may own once entry k is e: entry k, an 'every', or what could own before
owning-cases : {A : Type 0} (own : ℕ → Bool) (k : ℕ) (e : Entry) (j : ℕ) → owning own k e j ≡ true
    → (j ≡ k → eqb e.kind 5 ≡ true → A) → (own j ≡ true → A) → A
owning-cases own k e j h f g =
    or_cases (eqb j k && eqb e.kind 5) (own j) h
    (λ q. f (eqb-eq (and_left (eqb j k) (eqb e.kind 5) q)) (and_right (eqb j k) (eqb e.kind 5) q))
    g

-- an 'every' may own
owning-here : (own : ℕ → Bool) (k : ℕ) (e : Entry) → eqb e.kind 5 ≡ true → owning own k e k ≡ true
owning-here own k e h = rw (eqb-self k, h)

-- moved entries, and others after them
owners-moved : (m o : ℕ) (own : ℕ → Bool) (own' : ℕ → Bool) (k : ℕ) (xs ys : List Entry) → 1 ≤ k → Owners own k xs
    → ((j : ℕ) → own j ≡ true → own' (shifted m o j) ≡ true)
    → ((more : ℕ → Bool) → ((j : ℕ) → own' j ≡ true → more j ≡ true) → Owners more (m + k + length xs) ys)
    → Owners own' (m + k) (map (relocate m o) xs ++ ys)
owners-moved m o own own' k [] ys pos w h rest = rw add-zero at (rest own' (λ j g. g))
owners-moved m o own own' k (e ∷ xs) ys pos w h rest =
    let f : Entry = relocate m o e in
    let next : suc (m + k) ≡ m + suc k = omega arith in
    let size : m + k + suc (length xs) ≡ m + suc k + length xs = omega arith in (
      h e.owner w.0,
      rw next (owners-moved m o (owning own k e) (owning own' (m + k) f) (suc k) xs ys (omega arith) w.1
          (λ j g. owning-cases own k e j g
          (λ q z. rw (q, shifted-later m o k pos) (owning-here own' (m + k) f z))
          (λ z. owning-before own' (m + k) f (shifted m o j) (h j z)))
          (λ more g. rw size at (rest more (λ j z. g j (owning-before own' (m + k) f j z))))),
    )

module _ (T : ℕ → List Entry) (legal : (n : ℕ) → Owners top_owns 1 (T n)) where
  unfold-owners-from : (own own' : ℕ → Bool) (ν : ℕ → ℕ) (k m : ℕ) (es : List Entry) → Owners own k es → ((j : ℕ) → own j ≡ true → j < k)
      → ((j : ℕ) → own j ≡ true → own' (ν j) ≡ true) → Owners own' (suc m) (unfold_from T ν k m es)
  unfolding unfold_from
  unfold-owners-from own own' ν k m [] w early h = tt
  unfold-owners-from own own' ν k m (e ∷ es) w early h =
      bool_cases (is_named e)
      (λ q.
      let n : ℕ = length (T e.name) in
      let none = name-owns-none e q in
      let next : m + 1 ≡ suc m = omega arith in
      let size : m + 1 + n ≡ suc (m + n) = omega arith in
      rw (unfold-name T ν k m e es q, ← next)
      (owners-moved m (ν e.owner) top_owns own' 1 (T e.name) (unfold_from T ν (suc k) (m + n) es) (omega arith) (legal e.name)
      (λ j g. let z : j ≡ 0 = eqb-eq g in rw z (h e.owner w.0))
      (λ more g. rw size (unfold-owners-from (owning own k e) more ν (suc k) (m + n) es w.1
      (λ j z. omega (arith, early j (owning-none own k e j none z)))
      (λ j z. g (ν j) (h j (owning-none own k e j none z)))))))
      (λ q.
      let f : Entry = owned_by (ν e.owner) e in
      rw (unfold-entry T ν k m e es q) (
        h e.owner w.0,
        unfold-owners-from (owning own k e) (owning own' (suc m) f) (noted ν k (suc m)) (suc k) (suc m) es w.1
            (λ j g. owning-cases own k e j g (λ p z. omega arith) (λ z. omega (arith, early j z)))
            (λ j g. owning-cases own k e j g
            (λ p z. rw (p, eqb-self k) (owning-here own' (suc m) f z))
            (λ z. let jk : eqb j k ≡ false = omega (tests, early j z) in rw jk (owning-before own' (suc m) f (ν j) (h j z)))),
      ))

  pub unfold-owners : (es : List Entry) → Owners top_owns 1 es → Owners top_owns 1 (unfolded T es)
  unfolding unfolded
  unfold-owners es w = unfold-owners-from top_owns top_owns (λ j. j) 1 0 es w (λ j h. omega tests) (λ j h. h)

-- by number
pub unfold-owners-ok : (T : ℕ → List Entry) → ((n : ℕ) → OwnersOk (T n)) → (es : List Entry) → OwnersOk es → OwnersOk (unfolded T es)
unfold-owners-ok T t es h =
    numbers-of-owners (unfolded T es) (unfold-owners T (λ n. owners-of-numbers (T n) (t n)) es (owners-of-numbers es h))
