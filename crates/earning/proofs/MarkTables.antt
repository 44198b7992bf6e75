-- Tables of marks that are written run by run.
-- Assumes nothing.
use Prim.Native.Nat.{◌+◌, ◌<◌, ℕ}
use lib.Dec.{leb, ltb}
use lib.ListN.{get_or, length, set}
use lib.Seq.{get_or-set_other, get_or-set_same}
use mathlib.Core.Bool.{Bool, ◌&&◌, cond, false, not, true}
use mathlib.Core.List.{List}
use mathlib.Core.Logic.{◌≢◌}
use mathlib.Core.Path.{◌∙◌, ◌≡◌, refl, sym}
use Rattle.base.proofs.Tests.{and_one, and_zero, bool_cases, eq-cases, tests}
use Rattle.narrow.specs.Keeping.{without_run}

-- whether k lies from a, exclusive, up to b, exclusive
abbrev among : ℕ → ℕ → ℕ → Bool
among a b k = ltb a k && ltb k b

among-none : (a k : ℕ) → among a (a + 1) k ≡ false
among-none a k = bool_cases (ltb a k) (λ q. let z : ltb k (a + 1) ≡ false = omega tests in rw (q, z) refl) (λ q. rw q refl)

among-here : (a k : ℕ) → a < k → among a (k + 1) k ≡ true
among-here a k h = let x : ltb a k ≡ true = omega tests in let y : ltb k (k + 1) ≡ true = omega tests in rw (x, y) refl

among-other : (a b k : ℕ) → k ≢ b → among a (b + 1) k ≡ among a b k
among-other a b k z =
    let e : ltb k (b + 1) ≡ ltb k b = bool_cases (ltb k b) (λ q. let y : ltb k (b + 1) ≡ true = omega tests in rw (q, y) refl) (λ q. let y : ltb k (b + 1) ≡ false = omega tests in rw (q, y) refl) in
    rw e refl

among-whole : (a b k : ℕ) {c : ℕ} → c ≡ b + 1 → among a c k ≡ (ltb a k && leb k b)
among-whole a b k {c} h =
    let e : ltb k c ≡ leb k b = bool_cases (leb k b) (λ q. let y : ltb k c ≡ true = omega tests in rw (q, y) refl) (λ q. let y : ltb k c ≡ false = omega tests in rw (q, y) refl) in
    rw e refl

-- ---- a run is left out

pub cleared-start : (t : List Bool) (a j : ℕ) → get_or t j true ≡ (get_or t j true && not (among a (a + 1) j))
cleared-start t a j = rw (among-none a j) (sym (and_one (get_or t j true)))

pub cleared-more : (t u : List Bool) (a k : ℕ) → a < k → ((j : ℕ) → get_or u j true ≡ (get_or t j true && not (among a k j)))
    → k < length u → (j : ℕ) → get_or (set u k false) j true ≡ (get_or t j true && not (among a (k + 1) j))
cleared-more t u a k lo h w j =
    eq-cases j k
    (λ z. rw z (get_or-set_same u k false true w ∙ rw (among-here a k lo) (sym (and_zero (get_or t k true)))))
    (λ z. get_or-set_other u k j false true z ∙ h j ∙ rw (among-other a k j z) refl)

pub cleared-whole : (t u : List Bool) (a b c : ℕ) → c ≡ b + 1 → ((j : ℕ) → get_or u j true ≡ (get_or t j true && not (among a c j)))
    → (k : ℕ) → get_or u k true ≡ without_run a b (λ i. get_or t i true) k
cleared-whole t u a b c e h k = h k ∙ rw (among-whole a b k e) refl

-- ---- a run is put back, by a test

module _ (f : ℕ → Bool) where
  pub put-start : (t : List Bool) (a j : ℕ) → get_or t j true ≡ cond (among a (a + 1) j) (f j) (get_or t j true)
  put-start t a j = rw (among-none a j) refl

  pub put-more : (t u : List Bool) (a k : ℕ) {x : Bool} → a < k → ((j : ℕ) → get_or u j true ≡ cond (among a k j) (f j) (get_or t j true))
      → k < length u → x ≡ f k → (j : ℕ) → get_or (set u k x) j true ≡ cond (among a (k + 1) j) (f j) (get_or t j true)
  put-more t u a k {x} lo h w e j =
      eq-cases j k
      (λ z. rw z (get_or-set_same u k x true w ∙ rw (among-here a k lo) e))
      (λ z. get_or-set_other u k j x true z ∙ h j ∙ rw (among-other a k j z) refl)

  pub put-whole : (t u : List Bool) (a b c : ℕ) → c ≡ b + 1 → ((j : ℕ) → get_or u j true ≡ cond (among a c j) (f j) (get_or t j true))
      → (k : ℕ) → get_or u k true ≡ cond (ltb a k && leb k b) (f k) (get_or t k true)
  put-whole t u a b c e h k = h k ∙ rw (among-whole a b k e) refl
