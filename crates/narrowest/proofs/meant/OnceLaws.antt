-- Names that are sorted, each once: they ascend, and are the same names.
-- Assumes nothing.
use Prim.Native.Nat.{◌<◌, ℕ}
use lib.Dec.{eqb}
use mathlib.Core.Bool.{Bool, ◌||◌, false, false≢true, true}
use mathlib.Core.List.{List, [], ◌∷◌, foldr}
use mathlib.Core.Path.{◌∙◌, ◌≡◌, ap, refl, sym}
use native.Mathlib.Omega.{arith}
use Rattle.base.proofs.Missing.{or_swap}
use Rattle.base.proofs.Tests.{bool_cases, eq-cases, eqb-self, ne_eqb, or_left}
use Rattle.logic.proofs.SpecimenTrees.IncreasingNames.{Increasing}
use Rattle.logic.specs.Witness.{member}
use Rattle.narrowest.proofs.lacks.ApartLaws.{From, apart-increasing, apart-members}
use Rattle.narrowest.specs.code.Lacks.{apart}
use Rattle.sorting.proofs.AscendingNumbers.{Asc, end, next}
use Rattle.sorting.proofs.SortedList.{fold-sorted, sorted-asc}
use Rattle.sorting.specs.Sorted.{sorted}

-- ---- the same names

member-fold : (x : ℕ) (xs : List ℕ) → member x xs ≡ foldr (λ y b. eqb x y || b) false xs
unfolding member
member-fold x [] = refl
member-fold x (y ∷ xs) = ap (λ (b : Bool). eqb x y || b) (member-fold x xs)

member-sorted : (x : ℕ) (xs : List ℕ) → member x (sorted xs) ≡ member x xs
member-sorted x xs =
    member-fold x (sorted xs) ∙ fold-sorted (λ y b. eqb x y || b) false (λ y z b. or_swap (eqb x y) (eqb x z) b) xs ∙ sym (member-fold x xs)

-- ---- in ascending order

from-asc : {p : ℕ} {l : List ℕ} → Asc p l → From p l
from-asc end = tt
from-asc (next h a) = (h, from-asc a)

-- the first is below the mark that stands before all
once-rising : (xs : List ℕ) → From 0 xs → ((x : ℕ) → member x xs ≡ true → x < 65536) → Increasing 0 (apart 65536 xs)
unfolding apart member
once-rising [] f h = tt
once-rising (x ∷ xs) f h =
    let l : x < 65536 = h x (or_left (member x xs) (eqb-self x)) in
    let z : eqb x 65536 ≡ false = ne_eqb (λ q. absurd (omega arith)) in
    rw z (omega arith, apart-increasing x xs f.1)

-- none is new
passed : (ys : List ℕ) (y last : ℕ) → member y (apart last ys) ≡ true → member y ys ≡ true
unfolding apart member
passed [] y last n = n
passed (w ∷ ys) y last n =
    bool_cases (eqb y w)
    (λ e. rw e refl)
    (λ e. rw e (bool_cases (eqb w last)
    (λ d. passed ys y w (rw d at n))
    (λ d. passed ys y w (rw (d, e) at n))))

once-absent : (xs : List ℕ) → From 0 xs → ((x : ℕ) → member x xs ≡ true → x < 65536) → (x : ℕ) → member x (apart 65536 xs) ≡ member x xs
once-absent xs f h x =
    eq-cases x 65536
    (λ q.
    let i = once-rising xs f h in
    bool_cases (member x xs)
    (λ m. let l = h x m in absurd (omega arith))
    (λ m. bool_cases (member x (apart 65536 xs)) (λ n. absurd (false≢true (sym m ∙ passed xs x 65536 n))) (λ n. n ∙ sym m)))
    (λ q. let z : eqb x 65536 ≡ false = ne_eqb q in let e = apart-members x 65536 xs in rw z at e)

pub record Once (xs ys : List ℕ) : Type 0 where
  pub rising : Increasing 0 ys
  pub same : (x : ℕ) → member x ys ≡ member x xs
  pub small : (x : ℕ) → member x ys ≡ true → x < 65536

pub once-each : (xs : List ℕ) → ((x : ℕ) → member x xs ≡ true → x < 65536) → Once xs (apart 65536 (sorted xs))
once-each xs h =
    let f = from-asc (sorted-asc xs) in
    let h' : (x : ℕ) → member x (sorted xs) ≡ true → x < 65536 = λ x m. h x (sym (member-sorted x xs) ∙ m) in
    let s : (x : ℕ) → member x (apart 65536 (sorted xs)) ≡ member x xs = λ x. once-absent (sorted xs) f h' x ∙ member-sorted x xs in
    record { rising = once-rising (sorted xs) f h'; same = s; small = λ x m. h x (sym (s x) ∙ m) }
