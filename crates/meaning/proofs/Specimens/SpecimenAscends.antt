-- The entries of a comparison's specimen ascend by owner, then kind, then name: so each property of a place, and each group of a place
-- and link, stands once.
-- Assumes nothing.
use Prim.Native.Nat.{◌<◌, ◌≤◌, suc, ℕ}
use lib.Dec.{eqb, ltb}
use mathlib.Core.Bool.{true}
use mathlib.Core.List.{List, [], ◌∷◌}
use mathlib.Core.Path.{◌≡◌, refl}
use native.Mathlib.Omega.{arith}
use Rattle.base.proofs.Tests.{and_both, bool_cases, eqb-self, lt-ltb, or_left, or_right}
use Rattle.base.specs.Ascending.{Sorted}
use Rattle.blocks.specs.declared.Entry.{Entry}
use Rattle.logic.proofs.SpecimenTrees.IncreasingNames.{Increasing, links-increasing, names-increasing, properties-increasing}
use Rattle.logic.specs.Normal.{before}
use Rattle.logic.specs.Place.{Place, has, least}
use Rattle.logic.specs.SpecimenTree.{Group, SpecimenTree, group}
use Rattle.logic.specs.Tree.{Row, end, leaf, leaf_row, node, node_row}
use Rattle.logic.specs.Witness.{Target, below, build, groups_by, next, off, on, path, path_of, target_links, target_properties, with_properties, witness}
use Rattle.meaning.proofs.Descriptions.LaidAscends.{After, Deep, Keyed, laid-ascends}
use Rattle.meaning.specs.Description.{links_to}
use Rattle.meaning.specs.RowEntries.{entry_before}
use Rattle.meaning.specs.SpecimenFor.{row_entry, specimen_entries, specimen_for}

-- ---- places

-- rows of groups, as entries, go by owner, kind and name
keyed : (x : Row ℕ Group) → Keyed row_entry x
keyed (leaf_row o p) = (refl, refl, refl)
keyed (node_row o (group l m)) = (refl, refl, refl)

groups-above : (a n b : ℕ) (ls : List ℕ) (f : ℕ → ℕ) (s : ℕ → SpecimenTree) → ((l : ℕ) → b ≤ l → before a n 7 l ≡ true) → Increasing b ls → After row_entry a n (groups_by ls f s)
unfolding groups_by
groups-above a n b [] f s o h = tt
groups-above a n b (l ∷ ls) f s o h =
    let rest : After row_entry a n (groups_by ls f s) = groups-above a n (suc l) ls f s (λ x i. o x (omega (arith, h.0))) h.1 in
    bool_cases (eqb (f l) 0) (λ q. rw q rest) (λ q. rw q (o l h.0, rest))

groups-deep : (b : ℕ) (ls : List ℕ) (f : ℕ → ℕ) (s : ℕ → SpecimenTree) → Increasing b ls → ((l : ℕ) → Deep row_entry (s l)) → Deep row_entry (groups_by ls f s)
unfolding groups_by
groups-deep b [] f s h d = tt
groups-deep b (l ∷ ls) f s h d =
    let rest : Deep row_entry (groups_by ls f s) = groups-deep (suc l) ls f s h.1 d in
    let over : After row_entry 7 l (groups_by ls f s) = groups-above 7 l (suc l) ls f s (λ x i. or_right (ltb 7 7) (and_both (eqb-self 7) (lt-ltb i))) h.1 in
    bool_cases (eqb (f l) 0) (λ q. rw q rest) (λ q. rw q (over, d l, rest))

properties-above : (a b : ℕ) (ps : List ℕ) (s : SpecimenTree) → a < b → Increasing b ps → After row_entry 1 a s → After row_entry 1 a (with_properties ps s)
unfolding with_properties
properties-above a b [] s i h o = o
properties-above a b (p ∷ ps) s i h o =
    let z : a < p = omega (arith, h.0) in
    (or_right (ltb 1 1) (and_both (eqb-self 1) (lt-ltb z)), properties-above a (suc p) ps s (omega arith) h.1 o)

properties-deep : (b : ℕ) (ps : List ℕ) (s : SpecimenTree) → Increasing b ps → ((a : ℕ) → After row_entry 1 a s) → Deep row_entry s → Deep row_entry (with_properties ps s)
unfolding with_properties
properties-deep b [] s h o d = d
properties-deep b (p ∷ ps) s h o d = (properties-above p (suc p) ps s (omega arith) h.1 (o p), properties-deep (suc p) ps s h.1 o d)

build-deep : (f : ℕ → Target → SpecimenTree) (t : Place) (g : Target) → ((l : ℕ) → Deep row_entry (f l (next g l))) → Deep row_entry (build f t g)
unfolding build
build-deep f t g d =
    let ls = names-increasing least t (target_links g) (links-increasing g) in
    properties-deep 0 _ _ (names-increasing has t (target_properties g) (properties-increasing g))
    (λ a. groups-above 1 a 0 _ _ _ (λ l i. or_left (eqb 1 7) refl) ls)
    (groups-deep 0 _ _ _ ls d)

path-deep : (g : Target) → Deep row_entry (path_of g)
unfolding path
path-deep off = tt
path-deep (on [] a) = build-deep (λ l g. end) end (on [] a) (λ l. tt)
path-deep (on (l ∷ w) a) = (tt, path-deep (on w a), tt)

below-deep : (t : Place) (l : ℕ) (g : Target) → Deep row_entry (below t l g)
unfolding below
below-deep end l g = path-deep g
below-deep (leaf a r) l g = below-deep r l g
below-deep (node l' s r) l g =
    bool_cases (eqb l l') (λ q. rw q (build-deep (λ l'' g'. below s l'' g') s g (λ l''. below-deep s l'' (next g l'')))) (λ q. rw q (below-deep r l g))

witness-deep : (t : Place) (g : Target) → Deep row_entry (witness t g)
unfolding witness
witness-deep t g = build-deep (λ l g'. below t l g') t g (λ l. below-deep t l (next g l))

-- [C12] the specimen ascends
pub specimen-ascends : (t : Place) (d : List Entry) (n : ℕ) → Sorted entry_before (specimen_for t d n)
unfolding specimen_for specimen_entries
specimen-ascends t d n = laid-ascends row_entry keyed (witness t (on (links_to d n) _)) (witness-deep t _)
