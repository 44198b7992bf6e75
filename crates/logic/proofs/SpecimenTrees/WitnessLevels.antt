-- A comparison's specimen is no deeper than the normal form and the path of links.
-- Assumes nothing.
use Prim.Native.Nat.{◌≤◌, max, pred, suc, ℕ}
use lib.Dec.{eqb}
use mathlib.Core.Bool.{◌||◌, false≢true, true}
use mathlib.Core.List.{List, [], ◌∷◌}
use mathlib.Core.Path.{◌∙◌, ◌≡◌, sym}
use native.Mathlib.Omega.{arith}
use Rattle.base.proofs.Tests.{bool_cases, eqb-self, or_cases, or_left, or_right}
use Rattle.logic.proofs.SpecimenTrees.Names.{member-names}
use Rattle.logic.proofs.SpecimenTrees.WitnessMeasure.{BelowMeasured, target_size, witness-measure}
use Rattle.logic.specs.Normal.{find, found, sub}
use Rattle.logic.specs.Place.{Kind, Place, atom, has, least}
use Rattle.logic.specs.Size.{levels, measure}
use Rattle.logic.specs.SpecimenTree.{SpecimenTree}
use Rattle.logic.specs.Tree.{end, leaf, node}
use Rattle.logic.specs.Witness.{Target, build, count_for, groups_by, member, names, next, off, on, target_links, target_properties, with_properties, witness}

-- groups have one level more than what their items have
groups-levels : (f : ℕ → ℕ) (s : ℕ → SpecimenTree) (ls : List ℕ) (n : ℕ) → ((l : ℕ) → member l ls ≡ true → suc (levels (s l)) ≤ n)
    → levels (groups_by ls f s) ≤ n
unfolding measure groups_by member
groups-levels f s [] n h = omega arith
groups-levels f s (l ∷ ls) n h =
    let rest = groups-levels f s ls n (λ l' e. h l' (or_right (eqb l' l) e)) in
    bool_cases (eqb (f l) 0)
    (λ q. rw q rest)
    (λ q. rw q (omega (arith, rest, h l (or_left (member l ls) (eqb-self l)))))

-- properties have one level
properties-levels : (ps : List ℕ) (s : SpecimenTree) (n : ℕ) → ((p : ℕ) → member p ps ≡ true → 1 ≤ n) → levels s ≤ n → levels (with_properties ps s) ≤ n
unfolding measure with_properties member
properties-levels [] s n h e = e
properties-levels (p ∷ ps) s n h e =
    omega (arith, h p (or_left (member p ps) (eqb-self p)), properties-levels ps s n (λ q i. h q (or_right (eqb q p) i)) e)

-- a place that lists something has a level
found-level : (t : Place) (k : Kind) (n : ℕ) → found (find k n t) ≡ true → 1 ≤ levels t
unfolding find measure
found-level end k n e = absurd (false≢true e)
found-level (leaf (atom k' n' m) r) k n e = omega arith
found-level (node l s r) k n e = omega arith

-- a place below has a level less
sub-levels : (l : ℕ) (t : Place) → levels (sub l t) ≤ pred (levels t)
unfolding sub measure
sub-levels l end = omega arith
sub-levels l (leaf a r) = omega (arith, sub-levels l r)
sub-levels l (node l' s r) = bool_cases (eqb l l') (λ q. rw q (omega arith)) (λ q. rw q (omega (arith, sub-levels l r)))

-- the target below is shorter
next-size : (g : Target) (l : ℕ) → target_size (next g l) ≤ pred (target_size g)
next-size off l = omega arith
next-size (on [] a) l = omega arith
next-size (on (x ∷ w) a) l = bool_cases (eqb l x) (λ q. rw q (omega arith)) (λ q. rw q (omega arith))

-- a target that asks for something has a level
asks-level : (g : Target) (x : ℕ) → (member x (target_links g) || member x (target_properties g)) ≡ true → 1 ≤ target_size g
unfolding member
asks-level off x e = absurd (false≢true e)
asks-level (on w a) x e = omega arith

build-levels : (f : ℕ → Target → SpecimenTree) (t : Place) (g : Target) → BelowMeasured (λ m n. max m n) f t → levels (build f t g) ≤ max (levels t) (target_size g)
unfolding build
build-levels f t g h =
    let ls : List ℕ = names least t (target_links g) in
    let ps : List ℕ = names has t (target_properties g) in
    let n : ℕ = max (levels t) (target_size g) in
    properties-levels ps (groups_by ls (count_for t g) (λ l. f l (next g l))) n
    (λ p e. or_cases (found (find has p t)) (member p (target_properties g)) (sym (member-names has p t (target_properties g)) ∙ e)
    (λ z. omega (arith, found-level t has p z))
    (λ z. omega (arith, asks-level g p (or_right (member p (target_links g)) z))))
    (groups-levels (count_for t g) (λ l. f l (next g l)) ls n
    (λ l e.
    let some : 1 ≤ n = or_cases (found (find least l t)) (member l (target_links g)) (sym (member-names least l t (target_links g)) ∙ e)
    (λ z. omega (arith, found-level t least l z))
    (λ z. omega (arith, asks-level g l (or_left (member l (target_properties g)) z))) in
    omega (arith, h l (next g l), sub-levels l t, next-size g l)))

-- the specimen is no deeper than the normal place and the target
pub witness-levels : (t : Place) (g : Target) → levels (witness t g) ≤ max (levels t) (target_size g)
witness-levels = witness-measure (λ m n. max m n) (λ n. omega arith) (λ n. omega arith) build-levels
