-- Names and counts of a comparison's specimen: they are those of the normal form, of the path and of the entry that fails.
-- Assumes nothing.
use Prim.Native.Nat.{max, pred, ℕ}
use lib.Dec.{eqb, ltb}
use mathlib.Core.Bool.{false, true}
use mathlib.Core.List.{List, [], ◌∷◌}
use mathlib.Core.Path.{◌≡◌, refl}
use native.Mathlib.Omega.{arith}
use Rattle.base.proofs.Tests.{bool_cases, both_ways, lt-cases}
use Rattle.logic.proofs.NormalForm.NormalFields.{AtomFields, Fields}
use Rattle.logic.proofs.TreeRows.AllEntries.{AllEntries}
use Rattle.logic.specs.Normal.{find, rank}
use Rattle.logic.specs.Place.{Atom, Kind, Place, atom, has, lacks, least, most, nothing}
use Rattle.logic.specs.SpecimenTree.{Group, SpecimenTree, group}
use Rattle.logic.specs.Tree.{end, leaf, node}
use Rattle.logic.specs.Witness.{Target, below, build, count_for, groups_by, member, names, next, off, on, once, or_zero, path, put_ascending, target_links, target_properties, want, with_properties, witness}

-- each of the names
abbrev pub AllNames : (ℕ → Type 0) → List ℕ → Type 0
AllNames Name [] = Unit {0}
AllNames Name (x ∷ xs) = Name x × AllNames Name xs

module _ (Name Number : ℕ → Type 0) where
  -- the fields of a group: its link, and its count less 1
  abbrev pub GroupFields : Group → Type 0
  GroupFields (group l n) = Name l × Number n

  -- the fields of all entries of a specimen
  abbrev pub SpecimenFields : SpecimenTree → Type 0
  SpecimenFields s = AllEntries Name GroupFields s

  -- the fields of a target: the links to its entry, and the entry's own
  abbrev pub TargetFields : Target → Type 0
  TargetFields off = Unit {0}
  TargetFields (on w a) = AllNames Name w × AtomFields Name Number a

  -- ---- lists of names

  put-names : (x : ℕ) (ys : List ℕ) → Name x → AllNames Name ys → AllNames Name (put_ascending x ys)
  unfolding put_ascending
  put-names x [] n h = (n, tt)
  put-names x (y ∷ ys) n h = bool_cases (ltb x y) (λ q. rw q (n, h)) (λ q. rw q (h.0, put-names x ys n h.1))

  once-names : (x : ℕ) (ys : List ℕ) → Name x → AllNames Name ys → AllNames Name (once x ys)
  unfolding once
  once-names x ys n h = bool_cases (member x ys) (λ q. rw q h) (λ q. rw q (put-names x ys n h))

  -- an atom of a kind that is not 6 has a name
  atom-name : (k k' : Kind) (n m : ℕ) → eqb (rank k) 6 ≡ false → eqb (rank k) (rank k') ≡ true → AtomFields Name Number (atom k' n m) → Name n
  atom-name k has n m e q h = h.0
  atom-name k lacks n m e q h = h.0
  atom-name k least n m e q h = h.0
  atom-name k most n m e q h = h.0
  atom-name k nothing n m e q h = both_ways q e

  names-all : (k : Kind) → eqb (rank k) 6 ≡ false → (t : Place) (ls : List ℕ) → Fields Name Number t → AllNames Name ls → AllNames Name (names k t ls)
  unfolding names
  names-all k e end ls h n = n
  names-all k e (leaf (atom k' x m) r) ls h n =
      bool_cases (eqb (rank k) (rank k'))
      (λ q. rw q (once-names x (names k r ls) (atom-name k k' x m e q h.0) (names-all k e r ls h.1 n)))
      (λ q. rw q (names-all k e r ls h.1 n))
  names-all k e (node l s r) ls h n = names-all k e r ls h.2 n

  -- ---- the target

  target-links : (g : Target) → TargetFields g → AllNames Name (target_links g)
  target-links off h = tt
  target-links (on [] (atom has n m)) h = tt
  target-links (on [] (atom lacks n m)) h = tt
  target-links (on [] (atom least n m)) h = tt
  target-links (on [] (atom most n m)) h = (h.1.0, tt)
  target-links (on [] (atom nothing n m)) h = tt
  target-links (on (l ∷ w) a) h = (h.0.0, tt)

  target-properties : (g : Target) → TargetFields g → AllNames Name (target_properties g)
  target-properties off h = tt
  target-properties (on [] (atom has n m)) h = tt
  target-properties (on [] (atom lacks n m)) h = (h.1.0, tt)
  target-properties (on [] (atom least n m)) h = tt
  target-properties (on [] (atom most n m)) h = tt
  target-properties (on [] (atom nothing n m)) h = tt
  target-properties (on (l ∷ w) a) h = tt

  next-fields : (g : Target) (l : ℕ) → TargetFields g → TargetFields (next g l)
  next-fields off l h = tt
  next-fields (on [] a) l h = tt
  next-fields (on (x ∷ w) a) l h = bool_cases (eqb l x) (λ q. rw q (h.0.1, h.1)) (λ q. rw q tt)

  -- ---- counts

  module _ (none : Number 0) (less : (m : ℕ) → Number m → Number (pred m)) where
    -- the count that a target asks for, less 1
    want-number : (g : Target) (l : ℕ) → TargetFields g → Number (pred (want g l))
    want-number off l h = none
    want-number (on [] (atom has n m)) l h = none
    want-number (on [] (atom lacks n m)) l h = none
    want-number (on [] (atom least n m)) l h = none
    want-number (on [] (atom most n m)) l h = bool_cases (eqb l n) (λ q. rw q h.1.1) (λ q. rw q none)
    want-number (on [] (atom nothing n m)) l h = none
    want-number (on (x ∷ w) a) l h = bool_cases (eqb l x) (λ q. rw q none) (λ q. rw q none)

    -- the count that is listed, less 1
    listed-number : (t : Place) (l : ℕ) → Fields Name Number t → Number (pred (or_zero (find least l t)))
    unfolding find
    listed-number end l h = none
    listed-number (leaf (atom has n m) r) l h = listed-number r l h.1
    listed-number (leaf (atom lacks n m) r) l h = listed-number r l h.1
    listed-number (leaf (atom least n m) r) l h =
        bool_cases (eqb l n) (λ q. rw q (less m h.0.1)) (λ q. rw q (listed-number r l h.1))
    listed-number (leaf (atom most n m) r) l h = listed-number r l h.1
    listed-number (leaf (atom nothing n m) r) l h = listed-number r l h.1
    listed-number (node l' s r) l h = listed-number r l h.2

    max-number : (a b : ℕ) → Number (pred a) → Number (pred b) → Number (pred (max a b))
    max-number a b x y =
        lt-cases a b
        (λ h. let e : max a b ≡ b = omega arith in rw e y)
        (λ h. let e : max a b ≡ a = omega arith in rw e x)

    -- ---- the specimen

    groups-fields : (f : ℕ → ℕ) (s : ℕ → SpecimenTree) (ls : List ℕ) → AllNames Name ls → ((l : ℕ) → Number (pred (f l))) → ((l : ℕ) → SpecimenFields (s l))
        → SpecimenFields (groups_by ls f s)
    unfolding groups_by
    groups-fields f s [] n c h = tt
    groups-fields f s (l ∷ ls) n c h =
        bool_cases (eqb (f l) 0)
        (λ q. rw q (groups-fields f s ls n.1 c h))
        (λ q. rw q ((n.0, c l), h l, groups-fields f s ls n.1 c h))

    properties-fields : (ps : List ℕ) (s : SpecimenTree) → AllNames Name ps → SpecimenFields s → SpecimenFields (with_properties ps s)
    unfolding with_properties
    properties-fields [] s n h = h
    properties-fields (p ∷ ps) s n h = (n.0, properties-fields ps s n.1 h)

    build-fields : (f : ℕ → Target → SpecimenTree) (t : Place) (g : Target) → Fields Name Number t → TargetFields g
        → ((l : ℕ) (g' : Target) → TargetFields g' → SpecimenFields (f l g')) → SpecimenFields (build f t g)
    unfolding build
    build-fields f t g h e k =
        properties-fields (names has t (target_properties g)) (groups_by (names least t (target_links g)) (count_for t g) (λ l. f l (next g l)))
        (names-all has refl t (target_properties g) h (target-properties g e))
        (groups-fields (count_for t g) (λ l. f l (next g l)) (names least t (target_links g)) (names-all least refl t (target_links g) h (target-links g e))
        (λ l. max-number (or_zero (find least l t)) (want g l) (listed-number t l h) (want-number g l e))
        (λ l. k l (next g l) (next-fields g l e)))

    path-fields : (w : List ℕ) (a : Atom) → TargetFields (on w a) → SpecimenFields (path w a)
    unfolding path
    path-fields [] a e = build-fields (λ l g. end) end (on [] a) tt e (λ l g i. tt)
    path-fields (l ∷ w) a e = ((e.0.0, none), path-fields w a (e.0.1, e.1), tt)

    below-fields : (t : Place) (l : ℕ) (g : Target) → Fields Name Number t → TargetFields g → SpecimenFields (below t l g)
    unfolding below
    below-fields end l off h e = tt
    below-fields end l (on w a) h e = path-fields w a e
    below-fields (leaf a r) l g h e = below-fields r l g h.1 e
    below-fields (node l' s r) l g h e =
        bool_cases (eqb l l')
        (λ q. rw q (build-fields (λ l'' g'. below s l'' g') s g h.1 e (λ l'' g' i. below-fields s l'' g' h.1 i)))
        (λ q. rw q (below-fields r l g h.2 e))

    -- the fields of a comparison's specimen
    pub witness-fields : (t : Place) (g : Target) → Fields Name Number t → TargetFields g → SpecimenFields (witness t g)
    unfolding witness
    witness-fields t g h e = build-fields (λ l g'. below t l g') t g h e (λ l g' i. below-fields t l g' h i)
