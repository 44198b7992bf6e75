-- The order of entries, and places whose entries stand after a given kind and name.
-- Assumes nothing.
use Prim.Native.Nat.{◌<◌, ℕ}
use lib.Dec.{eqb, ltb}
use mathlib.Core.Bool.{◌&&◌, false, true}
use mathlib.Core.Option.{none, some}
use mathlib.Core.Path.{◌∙◌, ◌≡◌, ap₂, refl, sym}
use native.Mathlib.Omega.{arith}
use Rattle.base.proofs.Missing.{not-true, some-none}
use Rattle.base.proofs.Tests.{and_both, and_left, and_right, bool_cases, both_ways, eq-cases, eqb-eq, eqb-sym, ltb-lt, neither_left, neither_right, or_cases, or_right, tests}
use Rattle.logic.proofs.PlaceTrees.Lookup.{same_kind, same_name}
use Rattle.logic.specs.Canonical.{Above}
use Rattle.logic.specs.Normal.{before, find, is_end, rank, same, sub}
use Rattle.logic.specs.Place.{Kind, Place, atom, has, lacks, least, most, nothing}
use Rattle.logic.specs.Tree.{end, leaf, node}

-- ---- the order of entries

-- a lower kind stands before
pub before-lt : (a b c d : ℕ) → a < c → before a b c d ≡ true
before-lt a b c d h = let z : ltb a c ≡ true = omega tests in rw z

-- of one kind, a lower name does
pub before-eq : (a b c d : ℕ) → a ≡ c → b < d → before a b c d ≡ true
before-eq a b c d e h =
    let z : eqb a c ≡ true = omega tests in
    let y : ltb b d ≡ true = omega tests in
    or_right (ltb a c) (and_both z y)

-- why an entry stands before another
pub before-cases {ℓ} : {A : Type ℓ} (a b c d : ℕ) → before a b c d ≡ true → (a < c → A) → (a ≡ c → b < d → A) → A
before-cases a b c d e f g =
    or_cases (ltb a c) (eqb a c && ltb b d) e
    (λ h. f (omega tests))
    (λ h. g (eqb-eq (and_left (eqb a c) (ltb b d) h)) (ltb-lt (and_right (eqb a c) (ltb b d) h)))

pub before-trans : (a b c d e f : ℕ) → before a b c d ≡ true → before c d e f ≡ true → before a b e f ≡ true
before-trans a b c d e f p q =
    before-cases a b c d p
    (λ h. before-cases c d e f q (λ i. before-lt a b e f (omega arith)) (λ i j. before-lt a b e f (omega arith)))
    (λ h g. before-cases c d e f q (λ i. before-lt a b e f (omega arith)) (λ i j. before-eq a b e f (omega arith) (omega arith)))

-- of two different entries one stands before the other
pub before-total : (a b c d : ℕ) → before a b c d ≡ false → (eqb a c && eqb b d) ≡ false → before c d a b ≡ true
before-total a b c d p q =
    let x : ltb a c ≡ false = neither_left (ltb a c) (eqb a c && ltb b d) p in
    eq-cases a c
    (λ e.
    let y : eqb a c ≡ true = omega tests in
    let u : ltb b d ≡ false = rw y at (neither_right (ltb a c) (eqb a c && ltb b d) p) in
    let v : eqb b d ≡ false = rw y at q in
    before-eq c d a b (omega arith) (omega tests))
    (λ e. before-lt c d a b (omega tests))

-- no entry stands before itself
pub before-not : (a b : ℕ) → before a b a b ≡ true → ⊥
before-not a b e = before-cases a b a b e (λ h. omega arith) (λ h g. omega arith)

-- ---- entries that stand after others

-- what stands after an entry stands after those before it
pub above-trans : (a b c d : ℕ) (t : Place) → before a b c d ≡ true → Above c d t → Above a b t
above-trans a b c d end e h = tt
above-trans a b c d (leaf (atom k n m) r) e h = (before-trans a b c d (rank k) n e h.0, above-trans a b c d r e h.1)
above-trans a b c d (node l s r) e h = (before-trans a b c d 5 l e h.0, above-trans a b c d r e h.1)

-- an entry that stands before another differs from it
same_not : (k : Kind) (n : ℕ) (k' : Kind) (n' : ℕ) → before (rank k) n (rank k') n' ≡ true → same k n k' n' ≡ false
same_not k n k' n' h =
    not-true (λ q.
    let e : rank k ≡ rank k' = eqb-eq (and_left (eqb (rank k) (rank k')) (eqb n n') q) in
    let f : n ≡ n' = eqb-eq (and_right (eqb (rank k) (rank k')) (eqb n n') q) in
    before-cases (rank k) n (rank k') n' h (λ i. omega arith) (λ i j. omega arith))

-- a kind and name that all entries stand after is not listed
pub above-find : (k : Kind) (n : ℕ) (t : Place) → Above (rank k) n t → find k n t ≡ none
unfolding find
above-find k n end h = refl
above-find k n (leaf (atom k' n' m) r) h = rw (same_not k n k' n' h.0) (above-find k n r h.1)
above-find k n (node l s r) h = above-find k n r h.1

pub above-sub : (l : ℕ) (t : Place) → Above 5 l t → sub l t ≡ end
unfolding sub
above-sub l end h = refl
above-sub l (leaf (atom k n m) r) h = above-sub l r h.1
above-sub l (node l' s r) h =
    let z : eqb l l' ≡ false = before-cases 5 l 5 l' h.0 (λ i. absurd (omega arith)) (λ i j. omega tests) in
    rw z (above-sub l r h.1)

-- an atom is no 'every'
pub rank-five : (k : Kind) (n l : ℕ) → (eqb (rank k) 5 && eqb n l) ≡ false
rank-five has n l = refl
rank-five lacks n l = refl
rank-five least n l = refl
rank-five most n l = refl
rank-five nothing n l = refl

pub five-rank : (k : Kind) (n l : ℕ) → (eqb 5 (rank k) && eqb l n) ≡ false
five-rank k n l = rw (eqb-sym 5 (rank k), eqb-sym l n) (rank-five k n l)

-- ---- the rest of an ascending place

-- an entry of the rest is an entry of the place
pub find-rest : (k : Kind) (n m : ℕ) (r : Place) → Above (rank k) n r → (k' : Kind) (n' m' : ℕ) → find k' n' r ≡ some m'
    → find k' n' (leaf (atom k n m) r) ≡ some m'
unfolding find
find-rest k n m r h k' n' m' e =
    bool_cases (same k' n' k n)
    (λ q.
    let z : find k n r ≡ some m' = ap₂ (λ (a : Kind) (d : ℕ). find a d r) (sym (same_kind k' n' k n q)) (sym (same_name k' n' k n q)) ∙ e in
    some-none z (above-find k n r h))
    (λ q. rw q e)

pub sub-rest : (l : ℕ) (s r : Place) → Above 5 l r → (l' : ℕ) → is_end (sub l' r) ≡ false → sub l' (node l s r) ≡ sub l' r
unfolding sub
sub-rest l s r h l' e =
    bool_cases (eqb l' l)
    (λ q. let i : l' ≡ l = eqb-eq q in let z : sub l' r ≡ end = rw i (above-sub l r h) in both_ways (rw z) e)
    (λ q. rw q)
