-- A normal place is its atoms, and then its 'every' entries.
-- Assumes nothing.
use Prim.Native.Nat.{◌<◌, suc, ℕ}
use lib.Dec.{eqb}
use mathlib.Core.Bool.{false, false≢true, not, true}
use mathlib.Core.List.{List, [], ◌∷◌, map}
use mathlib.Core.Option.{some}
use mathlib.Core.Path.{◌∙◌, ◌≡◌, ap, ap₂, refl, sym}
use native.Mathlib.Omega.{arith}
use Rattle.base.proofs.Tests.{bool_cases, eq-cases, eqb-self, ne_eqb, or_left, or_right}
use Rattle.blocks.specs.declared.Entry.{Entry}
use Rattle.logic.proofs.PlaceTrees.Lookup.{find_head, sub-head}
use Rattle.logic.proofs.PlaceTrees.Order.{before-cases, find-rest}
use Rattle.logic.proofs.SpecimenTrees.IncreasingNames.{Increasing}
use Rattle.logic.specs.Background.{Background}
use Rattle.logic.specs.Canonical.{Above, Ascending, Canonical, Clean, canonical}
use Rattle.logic.specs.Laying.{leaves}
use Rattle.logic.specs.Normal.{before, find, is_end, rank, sub}
use Rattle.logic.specs.Place.{Atom, Kind, Place, atom, has, lacks, least, most, nothing}
use Rattle.logic.specs.Tree.{end, leaf, node, tree}
use Rattle.logic.specs.Witness.{member}
use Rattle.meaning.specs.Description.{atom_of, row_of}
use Rattle.narrow.specs.code.Made.{nodes_of}
use Rattle.narrowest.specs.code.Codes.{whole_atoms}
use Rattle.narrowest.specs.code.Forms.{owned_by}
use Rattle.std.specs.List.{flat_map}

-- ---- the two parts

unfoldable pub atoms_of : Place → List Atom
atoms_of end = []
atoms_of (leaf a r) = a ∷ atoms_of r
atoms_of (node l s r) = atoms_of r

unfoldable pub nodes_in : Place → List ℕ
nodes_in end = []
nodes_in (leaf a r) = nodes_in r
nodes_in (node l s r) = l ∷ nodes_in r

-- ---- 'every' entries by two functions that agree on their links

pub nodes-agree : (T V : ℕ → Place) (ls : List ℕ) → ((l : ℕ) → member l ls ≡ true → T l ≡ V l) → nodes_of T ls ≡ nodes_of V ls
unfolding nodes_of member
nodes-agree T V [] h = refl
nodes-agree T V (l ∷ ls) h =
    ap₂ (λ (s r : Place). node l s r) (h l (or_left (member l ls) (eqb-self l))) (nodes-agree T V ls (λ x m. h x (or_right (eqb x l) m)))

-- ---- their links ascend

-- none of the entries after an 'every' says that nothing fits
abbrev Alive : Place → Type 0
Alive t = (n m : ℕ) → find nothing n t ≡ some m → ⊥

nodes-above : (l : ℕ) (t : Place) → Above 5 l t → Ascending t → Alive t → (atoms_of t ≡ []) × Increasing (suc l) (nodes_in t)
unfolding atoms_of nodes_in
nodes-above l end h a v = (refl, tt)
nodes-above l (leaf (atom k n m) r) h a v = absurd (late k n h.0 (λ e. v n m (rw e (find_head nothing n m r))))
  where
    late : (k : Kind) (n : ℕ) → before 5 l (rank k) n ≡ true → (k ≡ nothing → ⊥) → ⊥
    late has n e z = before-cases 5 l 1 n e (λ i. omega arith) (λ i j. omega arith)
    late lacks n e z = before-cases 5 l 2 n e (λ i. omega arith) (λ i j. omega arith)
    late least n e z = before-cases 5 l 3 n e (λ i. omega arith) (λ i j. omega arith)
    late most n e z = before-cases 5 l 4 n e (λ i. omega arith) (λ i j. omega arith)
    late nothing n e z = z refl
nodes-above l (node l' s r) h a v =
    let up : l < l' = before-cases 5 l 5 l' h.0 (λ i. absurd (omega arith)) (λ i j. j) in
    let ih = nodes-above l' r a.0 a.2 (unfold find in v) in
    (ih.0, (omega arith, ih.1))

-- a lower number is none of them
later : (b x : ℕ) (xs : List ℕ) → member x xs ≡ true → Increasing b xs → x < b → ⊥
unfolding member
later b x [] m i z = false≢true m
later b x (y ∷ xs) m i z =
    eq-cases x y
    (λ q. absurd (omega (arith, i.0)))
    (λ q. later (suc y) x xs (rw (ne_eqb q) at m) i.1 (omega (arith, i.0)))

alive : (b : Background) (t : Place) → Clean b t → Alive t
alive b t c n m e = false≢true (c nothing n m e).1

-- ---- a place that ascends

parted : (t : Place) → Ascending t → Alive t → (t ≡ leaves (atoms_of t) (nodes_of (λ l. sub l t) (nodes_in t))) × Increasing 0 (nodes_in t)
unfolding atoms_of nodes_in leaves nodes_of sub
parted end a v = (refl, tt)
parted (leaf (atom k n m) r) a v =
    let ih = parted r a.1 (λ x y e. v x y (find-rest k n m r a.0 nothing x y e)) in
    (ap (λ (z : Place). leaf (atom k n m) z) ih.0, ih.1)
parted (node l s r) a v =
    let w : Alive r = unfold find in v in
    let h = nodes-above l r a.0 a.2 w in
    let ih = parted r a.2 w in
    let e : r ≡ nodes_of (λ l'. sub l' r) (nodes_in r) = ih.0 ∙ ap (λ (q : List Atom). leaves q (nodes_of (λ l'. sub l' r) (nodes_in r))) h.0 in
    let f : nodes_of (λ l'. sub l' r) (nodes_in r) ≡ nodes_of (λ l'. sub l' (node l s r)) (nodes_in r)
    = nodes-agree (λ l'. sub l' r) (λ l'. sub l' (node l s r)) (nodes_in r)
    (λ x m. let z : eqb x l ≡ false = ne_eqb (λ q. later (suc l) x (nodes_in r) m h.1 (omega arith)) in unfold sub in rw z refl) in
    (rw (h.0, leaves) (ap₂ (λ (x y : Place). node l x y) (sym (sub-head l s r)) (e ∙ f)), (omega arith, h.1))

-- a link has an 'every' exactly where something stands below it
nodes-named : (t : Place) → Ascending t → (l : ℕ) → member l (nodes_in t) ≡ not (is_end (sub l t))
unfolding nodes_in member sub
nodes-named end a l = refl
nodes-named (leaf (atom k n m) r) a l = nodes-named r a.1 l
nodes-named (node l' s r) a l =
    bool_cases (eqb l l') (λ q. rw (q, a.1) refl) (λ q. rw q (nodes-named r a.2 l))

pub record Parts (t : Place) : Type 0 where
  pub whole : t ≡ leaves (atoms_of t) (nodes_of (λ l. sub l t) (nodes_in t))
  pub rising : Increasing 0 (nodes_in t)
  pub named : (l : ℕ) → member l (nodes_in t) ≡ not (is_end (sub l t))

pub parts-of : {b : Background} {t : Place} → Canonical b t → Parts t
parts-of {b} {t} (canonical a c m k) = let p = parted t a (alive b t c) in record { whole = p.0; rising = p.1; named = nodes-named t a }

-- ---- the atoms of a place, by its entries

pub own-atoms : (o i : ℕ) (es : List Entry) → atoms_of (tree i (map row_of es) o) ≡ flat_map whole_atoms (owned_by o es)
unfolding atoms_of tree row_of whole_atoms owned_by
own-atoms o i [] = refl
own-atoms o i (e ∷ es) =
    let ih = own-atoms o (suc i) es in
    bool_cases (eqb e.kind 5)
    (λ f. bool_cases (eqb o e.owner) (λ y. rw (f, y, f) ih) (λ y. rw (f, y) ih))
    (λ f. bool_cases (eqb o e.owner) (λ y. rw (f, y, f) (ap (λ (z : List Atom). atom_of e ∷ z) ih)) (λ y. rw (f, y) ih))
