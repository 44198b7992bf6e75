-- The size of a comparison's specimen: its entries are at most those of the normal form, those of the path and one.
-- Assumes nothing.
use Prim.Native.Nat.{◌+◌, ◌≤◌, suc, ℕ}
use lib.Dec.{eqb, ltb}
use lib.ListN.{length}
use mathlib.Core.Bool.{cond}
use mathlib.Core.List.{List, [], ◌∷◌}
use mathlib.Core.Path.{◌≡◌, refl}
use native.Mathlib.Omega.{arith}
use Rattle.base.proofs.Tests.{bool_cases}
use Rattle.logic.proofs.Records.Counting.{sum_in}
use Rattle.logic.proofs.SpecimenTrees.Names.{Different, different-names}
use Rattle.logic.proofs.SpecimenTrees.Sums.{sum-add, sum-le, sum-once, sum-zero}
use Rattle.logic.proofs.SpecimenTrees.WitnessMeasure.{BelowMeasured, target_size, witness-measure}
use Rattle.logic.specs.Normal.{rank, sub}
use Rattle.logic.specs.Place.{Kind, Place, atom, has, lacks, least, most, nothing}
use Rattle.logic.specs.Size.{measure, nodes}
use Rattle.logic.specs.SpecimenTree.{SpecimenTree}
use Rattle.logic.specs.Tree.{end, leaf, node}
use Rattle.logic.specs.Witness.{Target, build, count_for, groups_by, member, names, next, off, on, once, put_ascending, target_links, target_properties, with_properties, witness}

-- ---- the lists of names

length-put : (l : ℕ) (ls : List ℕ) → length (put_ascending l ls) ≡ suc (length ls)
unfolding put_ascending
length-put l [] = refl
length-put l (a ∷ ls) = bool_cases (ltb l a) (λ q. rw q) (λ q. rw (q, length-put l ls))

length-once : (l : ℕ) (ls : List ℕ) → length (once l ls) ≤ suc (length ls)
unfolding once
length-once l ls = bool_cases (member l ls) (λ q. rw q (omega arith)) (λ q. rw q (omega (arith, length-put l ls)))

-- the entries of kind k of a place
listed_of : Kind → Place → ℕ
listed_of k end = 0
listed_of k (leaf (atom k' n m) r) = cond (eqb (rank k) (rank k')) 1 0 + listed_of k r
listed_of k (node l s r) = listed_of k r

-- the entries that a place's 'every' entries own
owned_by : Place → ℕ
owned_by end = 0
owned_by (leaf a r) = owned_by r
owned_by (node l s r) = nodes s + owned_by r

listed-nodes : (t : Place) → listed_of has t + listed_of least t + owned_by t ≤ nodes t
unfolding listed_of owned_by measure
listed-nodes end = omega arith
listed-nodes (leaf (atom has n m) r) = omega (arith, listed-nodes r)
listed-nodes (leaf (atom lacks n m) r) = omega (arith, listed-nodes r)
listed-nodes (leaf (atom least n m) r) = omega (arith, listed-nodes r)
listed-nodes (leaf (atom most n m) r) = omega (arith, listed-nodes r)
listed-nodes (leaf (atom nothing n m) r) = omega (arith, listed-nodes r)
listed-nodes (node l s r) = omega (arith, listed-nodes r)

length-names : (k : Kind) (t : Place) (ls : List ℕ) → length (names k t ls) ≤ listed_of k t + length ls
unfolding names listed_of
length-names k end ls = omega arith
length-names k (leaf (atom k' n m) r) ls =
    bool_cases (eqb (rank k) (rank k'))
    (λ q. rw q (omega (arith, length-once n (names k r ls), length-names k r ls)))
    (λ q. rw q (omega (arith, length-names k r ls)))
length-names k (node l s r) ls = length-names k r ls

-- a target names a link once
target-different : (g : Target) → Different (target_links g)
unfolding member
target-different off = tt
target-different (on [] (atom has n m)) = tt
target-different (on [] (atom lacks n m)) = tt
target-different (on [] (atom least n m)) = tt
target-different (on [] (atom most n m)) = (refl, tt)
target-different (on [] (atom nothing n m)) = tt
target-different (on (l ∷ w) a) = (refl, tt)

-- ---- entries

-- what stands below different links
owned-sum : (t : Place) (ls : List ℕ) → Different ls → sum_in (λ l. nodes (sub l t)) ls ≤ owned_by t
unfolding sub owned_by measure
owned-sum end ls u = omega (arith, sum-zero ls)
owned-sum (leaf a r) ls u = owned-sum r ls u
owned-sum (node l s r) ls u =
    omega (
      arith,
      owned-sum r ls u,
      sum-once (nodes s) l (λ l'. nodes (sub l' r)) ls u,
      sum-le (λ l'. nodes (sub l' (node l s r))) (λ l'. cond (eqb l' l) (nodes s + nodes (sub l' r)) (nodes (sub l' r))) ls
          (λ l'. bool_cases (eqb l' l) (λ q. rw q (omega arith)) (λ q. rw q (omega arith))),
    )

-- a target is used up by what it asks for here and by what it asks for below
next-sum : (g : Target) (ls : List ℕ) → Different ls → length (target_properties g) + length (target_links g) + sum_in (λ l. target_size (next g l)) ls ≤ target_size g
next-sum off ls u = omega (arith, sum-zero ls)
next-sum (on [] (atom has n m)) ls u = omega (arith, sum-zero ls)
next-sum (on [] (atom lacks n m)) ls u = omega (arith, sum-zero ls)
next-sum (on [] (atom least n m)) ls u = omega (arith, sum-zero ls)
next-sum (on [] (atom most n m)) ls u = omega (arith, sum-zero ls)
next-sum (on [] (atom nothing n m)) ls u = omega (arith, sum-zero ls)
next-sum (on (x ∷ w) a) ls u =
    omega (
      arith,
      sum-zero ls,
      sum-once (suc (length w)) x (λ l. 0) ls u,
      sum-le (λ l. target_size (next (on (x ∷ w) a) l)) (λ l. cond (eqb l x) (suc (length w) + 0) 0) ls
          (λ l. bool_cases (eqb l x) (λ q. rw q (omega arith)) (λ q. rw q (omega arith))),
    )

properties-nodes : (ps : List ℕ) (s : SpecimenTree) → nodes (with_properties ps s) ≡ length ps + nodes s
unfolding measure with_properties
properties-nodes [] s = omega arith
properties-nodes (p ∷ ps) s = omega (arith, properties-nodes ps s)

groups-nodes : (f : ℕ → ℕ) (s : ℕ → SpecimenTree) (ls : List ℕ) → nodes (groups_by ls f s) ≤ length ls + sum_in (λ l. nodes (s l)) ls
unfolding measure groups_by sum_in
groups-nodes f s [] = omega arith
groups-nodes f s (l ∷ ls) = bool_cases (eqb (f l) 0) (λ q. rw q (omega (arith, groups-nodes f s ls))) (λ q. rw q (omega (arith, groups-nodes f s ls)))

build-nodes : (f : ℕ → Target → SpecimenTree) (t : Place) (g : Target) → BelowMeasured (λ m n. m + n) f t → nodes (build f t g) ≤ nodes t + target_size g
unfolding build
build-nodes f t g h =
    let ls : List ℕ = names least t (target_links g) in
    let u : Different ls = different-names least t (target_links g) (target-different g) in
    omega (
      arith,
      properties-nodes (names has t (target_properties g)) (groups_by ls (count_for t g) (λ l. f l (next g l))),
      groups-nodes (count_for t g) (λ l. f l (next g l)) ls,
      length-names has t (target_properties g),
      length-names least t (target_links g),
      listed-nodes t,
      owned-sum t ls u,
      next-sum g ls u,
      sum-le (λ l. nodes (f l (next g l))) (λ l. nodes (sub l t) + target_size (next g l)) ls (λ l. h l (next g l)),
      sum-add (λ l. nodes (sub l t)) (λ l. target_size (next g l)) ls,
    )

-- the specimen has no more entries than the normal place and the target
pub witness-nodes : (t : Place) (g : Target) → nodes (witness t g) ≤ nodes t + target_size g
witness-nodes = witness-measure (λ m n. m + n) (λ n. omega arith) (λ n. omega arith) build-nodes
