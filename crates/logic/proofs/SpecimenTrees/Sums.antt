-- Sums over a list of numbers.
-- Assumes nothing.
use Prim.Native.Nat.{◌+◌, ◌≤◌, ℕ}
use lib.Dec.{eqb}
use mathlib.Core.Bool.{cond, false}
use mathlib.Core.List.{List, [], ◌∷◌}
use mathlib.Core.Path.{◌≡◌, refl}
use native.Mathlib.Omega.{arith}
use Rattle.base.proofs.Tests.{bool_cases, eqb-eq, neither_left, neither_right, tests}
use Rattle.logic.proofs.Records.Counting.{sum_in}
use Rattle.logic.proofs.SpecimenTrees.Names.{Different}
use Rattle.logic.specs.Witness.{member}

pub sum-le : (f g : ℕ → ℕ) (ls : List ℕ) → ((l : ℕ) → f l ≤ g l) → sum_in f ls ≤ sum_in g ls
unfolding sum_in
sum-le f g [] h = omega arith
sum-le f g (l ∷ ls) h = omega (arith, h l, sum-le f g ls h)

pub sum-add : (f g : ℕ → ℕ) (ls : List ℕ) → sum_in (λ l. f l + g l) ls ≡ sum_in f ls + sum_in g ls
unfolding sum_in
sum-add f g [] = refl
sum-add f g (l ∷ ls) = omega (arith, sum-add f g ls)

pub sum-zero : (ls : List ℕ) → sum_in (λ l. 0) ls ≡ 0
unfolding sum_in
sum-zero [] = refl
sum-zero (l ∷ ls) = omega (arith, sum-zero ls)

-- a summand that is larger at x alone, where x is not in the list
sum-without : (a x : ℕ) (g : ℕ → ℕ) (ls : List ℕ) → member x ls ≡ false → sum_in (λ l. cond (eqb l x) (a + g l) (g l)) ls ≡ sum_in g ls
unfolding sum_in member
sum-without a x g [] h = refl
sum-without a x g (l ∷ ls) h =
    let z : eqb x l ≡ false = neither_left (eqb x l) (member x ls) h in
    let y : eqb l x ≡ false = omega tests in
    rw (y, sum-without a x g ls (neither_right (eqb x l) (member x ls) h))

-- a summand that is larger by a at x alone makes the sum larger by a at most, as no number stands twice
pub sum-once : (a x : ℕ) (g : ℕ → ℕ) (ls : List ℕ) → Different ls → sum_in (λ l. cond (eqb l x) (a + g l) (g l)) ls ≤ a + sum_in g ls
unfolding sum_in
sum-once a x g [] u = omega arith
sum-once a x g (l ∷ ls) u =
    bool_cases (eqb l x)
    (λ q. let i : l ≡ x = eqb-eq q in rw q (omega (arith, sum-without a x g ls (rw i at u.0))))
    (λ q. rw q (omega (arith, sum-once a x g ls u.1)))
