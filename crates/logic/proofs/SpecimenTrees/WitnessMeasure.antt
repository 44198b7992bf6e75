-- A measure of a comparison's specimen: it is at most that of the normal place and the target taken together, by whatever `join` takes
-- entries together, if that holds of one place whenever it holds of the places below it. `nodes` and `levels` are the cases.
-- Assumes nothing.
use Prim.Native.Nat.{◌≤◌, suc, ℕ}
use lib.Dec.{eqb}
use lib.ListN.{length}
use mathlib.Core.List.{List, [], ◌∷◌}
use mathlib.Core.Path.{◌≡◌}
use native.Mathlib.Omega.{arith}
use Rattle.base.proofs.Tests.{bool_cases}
use Rattle.logic.specs.Normal.{sub}
use Rattle.logic.specs.Place.{Atom, Place}
use Rattle.logic.specs.Size.{measure}
use Rattle.logic.specs.SpecimenTree.{SpecimenTree}
use Rattle.logic.specs.Tree.{end, leaf, node}
use Rattle.logic.specs.Witness.{Target, below, build, off, on, path, witness}

-- what a target adds: its path, and what is asked for at its end
abbrev pub target_size : Target → ℕ
target_size off = 0
target_size (on w a) = suc (length w)

module _ (join : ℕ → ℕ → ℕ) where
  -- the places below place t, f of a link and a target, are measured by what stands below in t and by their targets
  abbrev pub BelowMeasured : (ℕ → Target → SpecimenTree) → Place → Type 0
  BelowMeasured f t = (l : ℕ) (g : Target) → measure join (f l g) ≤ join (measure join (sub l t)) (target_size g)

  module _ (left-zero : (n : ℕ) → join 0 n ≡ n) (right_zero : (n : ℕ) → join n 0 ≡ n)
      (one_place : (f : ℕ → Target → SpecimenTree) (t : Place) (g : Target) → BelowMeasured f t → measure join (build f t g) ≤ join (measure join t) (target_size g)) where
    path-measure : (w : List ℕ) (a : Atom) → measure join (path w a) ≤ suc (length w)
    unfolding path measure
    path-measure [] a = omega (arith, left-zero 1, one_place (λ l g. end) end (on [] a) (λ l g. omega arith))
    path-measure (l ∷ w) a = omega (arith, right_zero (suc (measure join (path w a))), path-measure w a)

    below-measure : (t : Place) → BelowMeasured (λ l g. below t l g) t
    unfolding below sub measure
    below-measure end l off = omega arith
    below-measure end l (on w a) = omega (arith, left-zero (suc (length w)), path-measure w a)
    below-measure (leaf a r) l g = below-measure r l g
    below-measure (node l' s r) l g =
        bool_cases (eqb l l')
        (λ q. rw q (one_place (λ l'' g'. below s l'' g') s g (below-measure s)))
        (λ q. rw q (below-measure r l g))

    pub witness-measure : (t : Place) (g : Target) → measure join (witness t g) ≤ join (measure join t) (target_size g)
    unfolding witness
    witness-measure t g = one_place (λ l g'. below t l g') t g (below-measure t)
