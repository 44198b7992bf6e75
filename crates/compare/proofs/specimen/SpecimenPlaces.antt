-- The specimen below each code: it is laid from the properties and the groups that the code gives, and their codes are codes.
-- Assumes nothing.
use Prim.Native.Nat.{◌%◌, ◌/◌, ◌<◌, ◌≤◌, max, pred, suc, zero, ℕ}
use lib.Dec.{eqb, ltb}
use lib.ListN.{drop_of_length-le, get_or, length}
use lib.Seq.{drop-cons}
use mathlib.Core.Bool.{Bool, ◌&&◌, false, false≢true, not, true}
use mathlib.Core.List.{List, [], ◌∷◌, map}
use mathlib.Core.Logic.{◌≢◌}
use mathlib.Core.Path.{◌∙◌, ◌≡◌, ap, fun_ext, refl, sym}
use native.Mathlib.Omega.{arith}
use Rattle.base.proofs.Split.{place_of, row_of}
use Rattle.base.proofs.Tests.{and_left, bool_cases, eq-cases, eq-eqb, eqb-self, ge-ltb, lt-cases, lt-ltb, ne_eqb, or_cases, or_left, or_right, tests}
use Rattle.blocks.specs.declared.Entry.{Entry}
use Rattle.compare.proofs.path.PathLaws.{length_up}
use Rattle.compare.specs.code.Codes.{OnPath, code_by, count_by, group_by, joints_by, properties_by, target_at, target_below, target_by, tree_by, up_from}
use Rattle.logic.specs.Laying.{codes, joint, joints, leaves}
use Rattle.logic.proofs.SpecimenTrees.Names.{member-names}
use Rattle.logic.proofs.SpecimenTrees.WitnessTree.{below-witness}
use Rattle.logic.proofs.TreeRows.FillLaws.{Codes}
use Rattle.logic.specs.Normal.{find, found}
use Rattle.logic.specs.Place.{Atom, Place, atom, has, lacks, least, most, nothing}
use Rattle.logic.specs.SpecimenTree.{SpecimenTree, group}
use Rattle.logic.specs.Witness.{Target, below, build, count_for, groups_by, member, names, next, off, on, or_zero, target_links, want, with_properties, witness}
use Rattle.meaning.specs.Description.{atom_of}
use Rattle.slots.proofs.HoldingLaws.{slot_small}
use Rattle.slots.proofs.TableSearch.{slots-many}
use Rattle.slots.specs.code.TablePlaces.{Stood, all_slots, below_in, least_in, place_in, slot_by, used_in}
use Rattle.slots.specs.code.Tables.{high_part}

-- ---- the target, by its number

-- the links that a target asks for are asked for
want-some : (g : Target) (l : ℕ) → member l (target_links g) ≡ true → 1 ≤ want g l
unfolding member
want-some off l e = absurd (false≢true e)
want-some (on [] (atom has n m)) l e = absurd (false≢true e)
want-some (on [] (atom lacks n m)) l e = absurd (false≢true e)
want-some (on [] (atom least n m)) l e = absurd (false≢true e)
want-some (on [] (atom most n m)) l e = or_cases (eqb l n) false e (λ q. rw q (omega arith)) (λ q. absurd (false≢true q))
want-some (on [] (atom nothing n m)) l e = absurd (false≢true e)
want-some (on (l' ∷ w) a) l e = or_cases (eqb l l') false e (λ q. rw q (omega arith)) (λ q. absurd (false≢true q))

-- the target that a link leads to
next-target : (w : List ℕ) (a : Atom) (g l : ℕ) → next (target_at w a g) l ≡ target_at w a (target_below w g l)
unfolding target_at target_below
next-target w a zero l = refl
next-target w a (suc i) l =
    lt-cases i (length w)
    (λ h. rw (lt-ltb h, drop-cons w i 0 h) (bool_cases (eqb l (get_or w i 0)) (λ q. rw q) (λ q. rw q)))
    (λ h. rw (ge-ltb h, drop_of_length-le w h))

-- a target leads at most past the end of its path
pub target-most : (w : List ℕ) (g l : ℕ) → target_below w g l ≤ suc (length w)
unfolding target_below
target-most w zero l = omega arith
target-most w (suc i) l =
    bool_cases (ltb i (length w) && eqb l (get_or w i 0))
    (λ q. rw q (let h : ltb i (length w) ≡ true = and_left (ltb i (length w)) (eqb l (get_or w i 0)) q in omega tests))
    (λ q. rw q (omega arith))

-- ---- the specimen of a place

-- properties before the groups
properties-leaves : (ps : List ℕ) (s : SpecimenTree) → with_properties ps s ≡ leaves ps s
unfolding with_properties leaves
properties-leaves [] s = refl
properties-leaves (p ∷ ps) s = rw (properties-leaves ps s)

-- groups of which none is empty, where T has what stands below each
groups-joints : (f : ℕ → ℕ) (s : ℕ → SpecimenTree) (T : ℕ → SpecimenTree) (c : ℕ → ℕ) (ls : List ℕ) → ((l : ℕ) → s l ≡ T (c l))
    → ((l : ℕ) → member l ls ≡ true → f l ≢ 0) → groups_by ls f s ≡ joints T (map (λ l. joint (group l (pred (f l))) (c l)) ls)
unfolding groups_by joints member
groups-joints f s T c [] e z = refl
groups-joints f s T c (l ∷ ls) e z =
    rw (ne_eqb (z l (or_left (member l ls) (eqb-self l))), groups-joints f s T c ls e (λ i h. z i (or_right (eqb i l) h)), e l)

-- ---- the slots of a place

module _ {t : List ℕ} (s : Stood t) where
  -- a slot that is found is one of the table
  pub slot-within : (v : ℕ) (b : Bool) (n : ℕ) → slot_by t v b n ≤ used_in t
  slot-within v b n = omega (arith, slot_small (all_slots t) v b n, slots-many t 1 (used_in t))

  -- [C10] N's at least, or 0
  pub least-in : (v l : ℕ) → or_zero (find least l (place_in t v)) ≡ least_in t (slot_by t v true l)
  least-in v l =
      let lo : ℕ = least_in t (slot_by t v true l) in
      rw (s.lists v least l) (eq-cases lo 0 (λ z. rw (eq-eqb z, z)) (λ z. rw (ne_eqb z)))

  -- an 'at least' is listed where the slot has one
  pub least-listed : (v l : ℕ) → found (find least l (place_in t v)) ≡ not (eqb (least_in t (slot_by t v true l)) 0)
  least-listed v l =
      let lo : ℕ = least_in t (slot_by t v true l) in
      rw (s.lists v least l) (bool_cases (eqb lo 0) (λ z. rw z) (λ z. rw z))

  -- the place below a slot has a number, and one that fits a code
  pub below-some : (j : ℕ) → 1 ≤ below_in t j
  unfolding below_in
  below-some j =
      eq-cases j 0
      (λ z. rw (eq-eqb z) (omega arith))
      (λ z. rw (ne_eqb z) (bool_cases (eqb (high_part (get_or t j 0)) 0) (λ q. rw q (omega arith)) (λ q. rw q (omega arith))))

  pub below-small : (j : ℕ) → j ≤ used_in t → below_in t j < 1024
  unfolding below_in
  below-small j h =
      bool_cases (eqb j 0)
      (λ z. rw z (omega arith))
      (λ z. rw z (bool_cases (eqb (high_part (get_or t j 0)) 0) (λ q. rw q (omega arith)) (λ q. rw q (omega (arith, s.few)))))

  module _ (links : List ℕ) (m c l : ℕ) where
    -- the number of the slot of a link of the place
    abbrev under : ℕ
    under = below_in t (slot_by t (c % 1024) true l)

    under-small : under < 1024
    under-small = below-small (slot_by t (c % 1024) true l) (slot-within (c % 1024) true l)

    -- the place and the target of the code that a link leads to
    code-place : code_by t links m c l % 1024 ≡ below_in t (slot_by t (c % 1024) true l)
    code-place = place_of {r = 1024} (target_below (up_from links m) (c / 1024) l) under under-small

    code-target : code_by t links m c l / 1024 ≡ target_below (up_from links m) (c / 1024) l
    code-target = row_of {r = 1024} (target_below (up_from links m) (c / 1024) l) under under-small

    -- a code is not 0
    code-some : 1 ≤ code_by t links m c l
    code-some = omega (arith, below-some (slot_by t (c % 1024) true l))

    code-path : OnPath m (code_by t links m c l)
    code-path = omega (arith, code-target, target-most (up_from links m) (c / 1024) l, length_up links m)

  -- ---- the specimen below a code

  module _ (links : List ℕ) (m : ℕ) (e : Entry) (c : ℕ) where
    abbrev here : Place
    here = place_in t (c % 1024)

    abbrev aim : Target
    aim = target_by links m e c

    -- the counts of its groups
    counts : count_for here aim ≡ count_by t links m e c
    counts = fun_ext (λ l. ap (λ (x : ℕ). max x (want aim l)) (least-in (c % 1024) l))

    -- the links of a place and of its target all have items
    counted : (l : ℕ) → member l (names least here (target_links aim)) ≡ true → count_by t links m e c l ≢ 0
    counted l h z =
        or_cases (found (find least l here)) (member l (target_links aim)) (rw member-names at h)
        (λ q.
        let lo : ℕ = least_in t (slot_by t (c % 1024) true l) in
        let some : not (eqb lo 0) ≡ true = sym (least-listed (c % 1024) l) ∙ q in
        eq-cases lo 0 (λ y. false≢true (rw (eq-eqb y) at some)) (λ y. omega arith))
        (λ q. omega (arith, want-some aim l q))

    -- what stands below the code that a link leads to
    tree-below : (l : ℕ) → below here l (next aim l) ≡ tree_by t links m e (code_by t links m c l)
    tree-below l =
        below-witness here l (next aim l)
        ∙ rw (code-place links m c l, code-target links m c l, s.owns (c % 1024) l, next-target (up_from links m) (atom_of e) (c / 1024) l)

    -- what stands below a code: its properties, and its groups with what stands below theirs
    pub tree_places : tree_by t links m e c ≡ leaves (properties_by t links m e c) (joints (tree_by t links m e) (joints_by t links m e c))
    unfolding witness build
    tree_places =
        properties-leaves _ _
        ∙ ap (λ (x : SpecimenTree). leaves (properties_by t links m e c) x)
        (rw counts
        (groups-joints (count_by t links m e c) (λ l. below here l (next aim l)) (tree_by t links m e) (code_by t links m c)
        (names least here (target_links aim)) tree-below counted))

    codes-each : (ls : List ℕ) → Codes (OnPath m) (codes (map (group_by t links m e c) ls))
    unfolding codes
    codes-each [] = tt
    codes-each (l ∷ ls) = ((λ z. omega (arith, code-some links m c l)), code-path links m c l, codes-each ls)

    -- the codes of its groups lead to places, and to targets on the path
    pub codes-good : Codes (OnPath m) (codes (joints_by t links m e c))
    codes-good = codes-each (names least here (target_links aim))
