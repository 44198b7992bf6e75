-- Unfolding goes by the numbers of owners only: entries in a row, entries that are written later, and entries that stood later.
-- Assumes nothing.
use Prim.Native.Nat.{◌+◌, ◌<◌, ◌≤◌, suc, zero, ℕ}
use lib.Dec.{eqb}
use lib.ListN.{length, length-append, length-map}
use mathlib.Core.Bool.{Bool, cond, false, true}
use mathlib.Core.List.{List, [], ◌++◌, ◌∷◌, append_assoc, map, map-append}
use mathlib.Core.Path.{◌∙◌, ◌≡◌, fun_ext, refl, sym}
use native.Mathlib.Nat.{add_assoc, add-suc}
use native.Mathlib.Omega.{arith}
use Rattle.base.proofs.Tests.{bool_cases, eq-cases, eq-eqb, ne_eqb, tests}
use Rattle.blocks.specs.Entries.{is_named}
use Rattle.blocks.specs.declared.Entry.{Entry}
use Rattle.names.proofs.Entries.Numbers.{owning, owning-none, owning-other, shifted-is, shifted-later}
use Rattle.names.proofs.Entries.OwnerSteps.{Owners, name-owns-none}
use Rattle.names.specs.Unfold.{noted, relocate, shifted, unfold_from}

-- ---- entries moved twice

shifted-twice : (p o m q j : ℕ) → shifted (p + m) (shifted p o q) j ≡ shifted p o (shifted m q j)
shifted-twice p o m q zero = refl
shifted-twice p o m q (suc j) = sym (shifted-later p o (m + suc j) (omega arith) ∙ sym (add_assoc p m (suc j)))

relocate-twice : (p o m q : ℕ) (es : List Entry) → map (relocate (p + m) (shifted p o q)) es ≡ map (relocate p o) (map (relocate m q) es)
relocate-twice p o m q [] = refl
relocate-twice p o m q (e ∷ es) = rw (shifted-twice p o m q e.owner, relocate-twice p o m q es)

module _ (T : ℕ → List Entry) where
  -- ---- numbers

  -- only the numbers of owners count
  pub unfold-ext : (own : ℕ → Bool) (ν μ : ℕ → ℕ) (k m : ℕ) (es : List Entry) → Owners own k es → ((j : ℕ) → own j ≡ true → ν j ≡ μ j)
      → unfold_from T ν k m es ≡ unfold_from T μ k m es
  unfolding unfold_from
  unfold-ext own ν μ k m [] w h = refl
  unfold-ext own ν μ k m (e ∷ es) w h =
      bool_cases (is_named e)
      (λ q.
      let n : ℕ = length (T e.name) in
      rw (q, h e.owner w.0, unfold-ext (owning own k e) ν μ (suc k) (m + n) es w.1 (λ j g. h j (owning-none own k e j (name-owns-none e q) g))))
      (λ q.
      rw (
        q,
        h e.owner w.0,
        unfold-ext (owning own k e) (noted ν k (suc m)) (noted μ k (suc m)) (suc k) (suc m) es w.1
            (λ j g. eq-cases j k (λ p. rw (eq-eqb p)) (λ p. rw (ne_eqb p) (h j (owning-other own k e j (ne_eqb p) g)))),
      ))

  -- the numbers after some entries
  unfoldable pub after : (ℕ → ℕ) → ℕ → ℕ → List Entry → ℕ → ℕ
  after ν k m [] = ν
  after ν k m (e ∷ es) = cond (is_named e) (after ν (suc k) (m + length (T e.name)) es) (after (noted ν k (suc m)) (suc k) (suc m) es)

  -- those of earlier entries stay
  pub after_same : (ν : ℕ → ℕ) (k m : ℕ) (es : List Entry) (j : ℕ) → j < k → after ν k m es j ≡ ν j
  unfolding after
  after_same ν k m [] j l = refl
  after_same ν k m (e ∷ es) j l =
      bool_cases (is_named e)
      (λ q. rw q (after_same ν (suc k) (m + length (T e.name)) es j (omega arith)))
      (λ q. let z : eqb j k ≡ false = omega tests in rw q (after_same (noted ν k (suc m)) (suc k) (suc m) es j (omega arith) ∙ rw z))

  -- ---- entries

  -- entries in a row
  pub unfold-append : (ν : ℕ → ℕ) (k m : ℕ) (es fs : List Entry)
      → unfold_from T ν k m (es ++ fs) ≡ unfold_from T ν k m es ++ unfold_from T (after ν k m es) (k + length es) (m + length (unfold_from T ν k m es)) fs
  unfolding unfold_from after
  unfold-append ν k m [] fs =
      let a : k + 0 ≡ k = omega arith in
      let b : m + 0 ≡ m = omega arith in
      rw (a, b)
  unfold-append ν k m (e ∷ es) fs =
      let size : k + suc (length es) ≡ suc k + length es = omega arith in
      bool_cases (is_named e)
      (λ q.
      let n : ℕ = length (T e.name) in
      let X = map (relocate m (ν e.owner)) (T e.name) in
      let Y = unfold_from T ν (suc k) (m + n) es in
      let g : m + length (X ++ Y) ≡ m + n + length Y = omega (arith, length-append X Y, length-map (T e.name) (relocate m (ν e.owner))) in
      rw (q, size, g, unfold-append ν (suc k) (m + n) es fs) (sym (append_assoc X Y _)))
      (λ q.
      let Y = unfold_from T (noted ν k (suc m)) (suc k) (suc m) es in
      let g : m + suc (length Y) ≡ suc m + length Y = omega arith in
      rw (q, size, g, unfold-append (noted ν k (suc m)) (suc k) (suc m) es fs))

  -- what is written stands later
  pub unfold-out : (p o : ℕ) (ν : ℕ → ℕ) (k m : ℕ) (es : List Entry)
      → unfold_from T (λ j. shifted p o (ν j)) k (p + m) es ≡ map (relocate p o) (unfold_from T ν k m es)
  unfolding unfold_from
  unfold-out p o ν k m [] = refl
  unfold-out p o ν k m (e ∷ es) =
      bool_cases (is_named e)
      (λ q.
      let n : ℕ = length (T e.name) in
      rw (q, map-append, ← (relocate-twice p o m (ν e.owner) (T e.name)), add_assoc p m n, unfold-out p o ν (suc k) (m + n) es))
      (λ q.
      let z : noted (λ j. shifted p o (ν j)) k (p + suc m) ≡ (λ j. shifted p o (noted ν k (suc m) j)) =
      fun_ext (λ j. eq-cases j k (λ h. rw (eq-eqb h) (sym (shifted-later p o (suc m) (omega arith)))) (λ h. rw (ne_eqb h))) in
      rw (q, ← (add-suc p m), z, unfold-out p o (noted ν k (suc m)) (suc k) (suc m) es))

  -- what is read stood later
  pub unfold-in : (p o : ℕ) → o ≤ p → (ν : ℕ → ℕ) (k m : ℕ) → 1 ≤ k → (es : List Entry)
      → unfold_from T ν (p + k) m (map (relocate p o) es) ≡ unfold_from T (λ j. ν (shifted p o j)) k m es
  unfolding unfold_from
  unfold-in p o l ν k m h [] = refl
  unfold-in p o l ν k m h (e ∷ es) =
      bool_cases (is_named e)
      (λ q. rw (q, ← (add-suc p k), unfold-in p o l ν (suc k) (m + length (T e.name)) (omega arith) es))
      (λ q.
      let z : (λ j. noted ν (p + k) (suc m) (shifted p o j)) ≡ noted (λ j. ν (shifted p o j)) k (suc m) =
      fun_ext (λ j. rw (shifted-is p o j k l h)) in
      rw (q, ← (add-suc p k), unfold-in p o l (noted ν (p + k) (suc m)) (suc k) (suc m) (omega arith) es, z))
