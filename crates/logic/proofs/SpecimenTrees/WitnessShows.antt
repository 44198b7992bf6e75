-- The specimen of a comparison: its top item fits the normal place and does not meet the entry that the place does not hold, and
-- its items keep the background.
-- Assumes nothing.
use Prim.Native.Nat.{◌<◌, ◌≤◌, ℕ}
use lib.Dec.{eqb, leb, ltb}
use mathlib.Core.Bool.{false, false≢true, true, true≢false}
use mathlib.Core.List.{List, [], ◌∷◌}
use mathlib.Core.Option.{Option, some}
use mathlib.Core.Path.{◌∙◌, ◌≡◌, ap, refl, sym}
use native.Mathlib.Omega.{arith}
use Rattle.base.proofs.Missing.{not-true, opt_cases}
use Rattle.base.proofs.Tests.{and_both, bool_cases, both_ways, eqb-eq, eqb-self, neither_left, neither_right, not-to-false, not-to-true, or_cases, or_left, or-none, or_right, tests}
use Rattle.logic.proofs.PlaceTrees.Lookup.{find_head, sub-head}
use Rattle.logic.proofs.PlaceTrees.Order.{find-rest, sub-rest}
use Rattle.logic.proofs.SpecimenTrees.WitnessTree.{each-witness, given-witness, not-each-witness, total-witness}
use Rattle.logic.specs.Background.{Background}
use Rattle.logic.specs.Canonical.{Ascending, Canonical, canonical}
use Rattle.logic.specs.Holds.{holds_at}
use Rattle.logic.specs.Normal.{at_most, clash, excluded, find, found, is_end, sub, supports}
use Rattle.logic.specs.Place.{Atom, Kind, Place, atom, has, lacks, least, most, nothing}
use Rattle.logic.specs.SpecimenTree.{SpecimenTree, along_top, each_in, fits_top, meets_top}
use Rattle.logic.specs.Tree.{end, leaf, node}
use Rattle.logic.specs.Witness.{Target, member, next, off, on, target_properties, want, witness}

-- an ascending place is fitted if what it lists is met
fits-listed : (s : SpecimenTree) (t : Place) → Ascending t → ((k : Kind) (n m : ℕ) → find k n t ≡ some m → meets_top (atom k n m) s ≡ true)
    → ((l : ℕ) → is_end (sub l t) ≡ false → each_in l (λ u. fits_top (sub l t) u) s ≡ true) → fits_top t s ≡ true
unfolding fits_top
fits-listed s end h f g = refl
fits-listed s (leaf (atom k n m) r) h f g =
    and_both (f k n m (find_head k n m r))
    (fits-listed s r h.1 (λ k' n' m' e. f k' n' m' (find-rest k n m r h.0 k' n' m' e)) (unfold sub in (λ l e. g l e)))
fits-listed s (node l d r) h f g =
    and_both
    (ap (λ (x : Place). each_in l (λ u. fits_top x u) s) (sym (sub-head l d r)) ∙ g l (rw (sub-head l d r) h.1))
    (fits-listed s r h.2 (unfold find in (λ k n m e. f k n m e))
    (λ l' e.
    let z : sub l' (node l d r) ≡ sub l' r = sub-rest l d r h.0 l' e in
    ap (λ (x : Place). each_in l' (λ u. fits_top x u) s) (sym z) ∙ g l' (rw z e)))

-- a target asks for one property at most
pub target_one : (g : Target) (p q : ℕ) → member p (target_properties g) ≡ true → member q (target_properties g) ≡ true → p ≡ q
unfolding member
target_one off p q d e = absurd (false≢true e)
target_one (on [] (atom has n m)) p q d e = absurd (false≢true e)
target_one (on [] (atom lacks n m)) p q d e =
    let i : eqb p n ≡ true = or_cases (eqb p n) false d (λ z. z) (λ z. absurd (false≢true z)) in
    let j : eqb q n ≡ true = or_cases (eqb q n) false e (λ z. z) (λ z. absurd (false≢true z)) in
    omega tests
target_one (on [] (atom least n m)) p q d e = absurd (false≢true e)
target_one (on [] (atom most n m)) p q d e = absurd (false≢true e)
target_one (on [] (atom nothing n m)) p q d e = absurd (false≢true e)
target_one (on (l ∷ w) a) p q d e = absurd (false≢true e)

-- an at most, listed or by a cap, bounds what it does not support
under-bound : (o : Option ℕ) (m q : ℕ) → o ≡ some m → at_most q o ≡ false → q < m
under-bound o m q e z = let y : leb m q ≡ false = rw e at z in omega tests

module _ (b : Background) where
  -- the target's atom does not hold
  abbrev pub Open : Place → Target → Type 0
  Open t off = Unit {0}
  Open t (on w a) = holds_at b t w a ≡ false

  -- so it is for the place below and its part of the target
  pub open_next : (t : Place) (g : Target) (l : ℕ) → Open t g → Open (sub l t) (next g l)
  unfolding holds_at
  open_next t off l o = tt
  open_next t (on [] a) l o = tt
  open_next t (on (l' ∷ w) a) l o =
      bool_cases (eqb l l')
      (λ q. let e : l ≡ l' = eqb-eq q in rw (q, e) (neither_right (supports b t (atom most l' 0)) (holds_at b (sub l' t) w a) o))
      (λ q. rw q tt)

  -- ---- what the target asks for

  -- a property that the target asks for is one whose lack is not supported
  pub target-lack : (t : Place) (g : Target) (p : ℕ) → Open t g → member p (target_properties g) ≡ true → supports b t (atom lacks p 0) ≡ false
  unfolding member holds_at
  target-lack t off p o e = absurd (false≢true e)
  target-lack t (on [] (atom has n m)) p o e = absurd (false≢true e)
  target-lack t (on [] (atom lacks n m)) p o e = let i : p ≡ n = eqb-eq (or_cases (eqb p n) false e (λ z. z) (λ z. absurd (false≢true z))) in rw i o
  target-lack t (on [] (atom least n m)) p o e = absurd (false≢true e)
  target-lack t (on [] (atom most n m)) p o e = absurd (false≢true e)
  target-lack t (on [] (atom nothing n m)) p o e = absurd (false≢true e)
  target-lack t (on (l ∷ w) a) p o e = absurd (false≢true e)

  -- it asks for no more items than a bound m allows, if each at most that is not supported is below m
  want-within : (t : Place) (g : Target) (n m : ℕ) → Open t g → ((q : ℕ) → supports b t (atom most n q) ≡ false → q < m) → want g n ≤ m
  unfolding holds_at
  want-within t off n m o f = omega arith
  want-within t (on [] (atom has n' m')) n m o f = omega arith
  want-within t (on [] (atom lacks n' m')) n m o f = omega arith
  want-within t (on [] (atom least n' m')) n m o f = omega arith
  want-within t (on [] (atom most n' m')) n m o f =
      bool_cases (eqb n n')
      (λ q. let i : n ≡ n' = eqb-eq q in rw q (f m' (rw i o)))
      (λ q. rw q (omega arith))
  want-within t (on [] (atom nothing n' m')) n m o f = omega arith
  want-within t (on (l ∷ w) a) n m o f =
      bool_cases (eqb n l)
      (λ q. let i : n ≡ l = eqb-eq q in rw q (f 0 (rw i (neither_left (supports b t (atom most l 0)) (holds_at b (sub l t) w a) o))))
      (λ q. rw q (omega arith))

  -- an at most, listed or by a cap, is such a bound
  want-most : (t : Place) (g : Target) (n m : ℕ) → Open t g → find most n t ≡ some m → want g n ≤ m
  want-most t g n m o e =
      want-within t g n m o (λ q z. under-bound (find most n t) m q e (neither_left (at_most q (find most n t)) (at_most q (b.cap n)) z))

  pub want-cap : (t : Place) (g : Target) (n m : ℕ) → Open t g → b.cap n ≡ some m → want g n ≤ m
  want-cap t g n m o e =
      want-within t g n m o (λ q z. under-bound (b.cap n) m q e (neither_right (at_most q (find most n t)) (at_most q (b.cap n)) z))

  -- ---- the specimen fits

  -- the top item meets what the place lists
  met : (t : Place) (g : Target) (k : Kind) (n m : ℕ) → Open t g → find k n t ≡ some m → clash b t (atom k n m) ≡ false
      → meets_top (atom k n m) (witness t g) ≡ true
  met t g has n m o e c = given-witness t g n ∙ rw e
  met t g lacks n m o e c =
      let z : member n (target_properties g) ≡ false
      = not-true (λ y. both_ways (rw e) (neither_left (found (find lacks n t)) (excluded b n t) (target-lack t g n o y))) in
      not-to-true (given-witness t g n ∙ or-none c z)
  met t g least n m o e c = rw (total-witness t g n, e) (omega tests)
  met t g most n m o e c =
      rw (total-witness t g n)
      (opt_cases (find least n t)
      (λ q. rw q (omega (tests, want-most t g n m o e)))
      (λ d q. let z : ltb m d ≡ false = rw q at c in rw q (omega (tests, want-most t g n m o e))))
  met t g nothing n m o e c = absurd (true≢false c)

  -- the top item fits the place
  pub witness-fits : (t : Place) → Canonical b t → (g : Target) → Open t g → fits_top t (witness t g) ≡ true
  witness-fits t (canonical a c d s) g o =
      fits-listed (witness t g) t a (λ k n m e. met t g k n m o e (c k n m e).0)
      (λ l e. each-witness t g l (λ u. fits_top (sub l t) u) (witness-fits (sub l t) (s l e) (next g l) (open_next t g l o)))

  -- ---- the specimen refutes

  -- the top item does not meet the atom
  unmet : (t : Place) (a : Atom) → supports b t a ≡ false → meets_top a (witness t (on [] a)) ≡ false
  unfolding member
  unmet t (atom has n m) e = given-witness t (on [] (atom has n m)) n ∙ or-none e refl
  unmet t (atom lacks n m) e =
      not-to-false (given-witness t (on [] (atom lacks n m)) n ∙ or_right (found (find has n t)) (or_left false (eqb-self n)))
  unmet t (atom least n m) e =
      rw (total-witness t (on [] (atom least n m)) n)
      (opt_cases (find least n t)
      (λ q. let z : eqb m 0 ≡ false = rw q at e in rw q (omega tests))
      (λ d q. let z : leb m d ≡ false = rw q at e in rw q (omega tests)))
  unmet t (atom most n m) e = rw (total-witness t (on [] (atom most n m)) n, eqb-self n) (omega tests)
  unmet t (atom nothing n m) e = refl

  -- the items that the links lead to do not meet the atom
  pub witness-refutes : (t : Place) (w : List ℕ) (a : Atom) → holds_at b t w a ≡ false → along_top w (meets_top a) (witness t (on w a)) ≡ false
  unfolding along_top holds_at member
  witness-refutes t [] a e = unmet t a e
  witness-refutes t (l ∷ w) a e =
      let r : eqb l l ≡ true = eqb-self l in
      not-each-witness t (on (l ∷ w) a) l (λ u. along_top w (meets_top a) u)
      (rw r (witness-refutes (sub l t) w a (neither_right (supports b t (atom most l 0)) (holds_at b (sub l t) w a) e)))
      (rw r) (rw r (omega arith))
