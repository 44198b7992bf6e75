-- Of numbers that ascend each is pushed once.
-- Assumes nothing.
use Prim.Native.Nat.{◌≤◌, suc, ℕ}
use lib.Dec.{eqb}
use mathlib.Core.Bool.{Bool, ◌||◌}
use mathlib.Core.List.{List, [], ◌∷◌}
use mathlib.Core.Path.{◌≡◌, ap, refl}
use native.Mathlib.Omega.{arith}
use Rattle.base.proofs.Tests.{bool_cases, eq-cases, eq-eqb, ne_eqb}
use Rattle.logic.proofs.SpecimenTrees.IncreasingNames.{Increasing}
use Rattle.logic.specs.Witness.{member}
use Rattle.narrowest.specs.code.Lacks.{apart}

-- each is at least the one before
abbrev pub From : ℕ → List ℕ → Type 0
From last [] = Unit {0}
From last (x ∷ xs) = (last ≤ x) × From x xs

-- those that are left are each above the one before
pub apart-increasing : (last : ℕ) (xs : List ℕ) → From last xs → Increasing (suc last) (apart last xs)
unfolding apart
apart-increasing last [] h = tt
apart-increasing last (x ∷ xs) h =
    let r = apart-increasing x xs h.1 in
    eq-cases x last
    (λ e. rw (eq-eqb e) (rw (← e) r))
    (λ z. rw (ne_eqb z) (omega (arith, h.0, z), r))

-- and the same numbers, but for the last
pub apart-members : (p last : ℕ) (xs : List ℕ) → (eqb p last || member p (apart last xs)) ≡ (eqb p last || member p xs)
unfolding apart member
apart-members p last [] = refl
apart-members p last (x ∷ xs) =
    let ih = apart-members p x xs in
    eq-cases x last
    (λ e. rw (eq-eqb e) (rw (← e) (bool_cases (eqb p x) (λ w. rw w refl) (λ w. rw w (rw w at ih)))))
    (λ z. rw (ne_eqb z) (ap (λ (b : Bool). eqb p last || b) ih))
