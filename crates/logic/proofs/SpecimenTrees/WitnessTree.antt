-- The specimen of a comparison: what its top item has, and how many items it is linked to.
-- Assumes nothing.
use Prim.Native.Nat.{◌<◌, ℕ}
use lib.Dec.{eqb}
use mathlib.Core.Bool.{Bool, ◌||◌, cond, false, not, or_assoc, or-false, true}
use mathlib.Core.List.{List, [], ◌∷◌}
use mathlib.Core.Option.{Option, none, some}
use mathlib.Core.Path.{◌∙◌, ◌≡◌, refl, sym}
use native.Mathlib.Omega.{arith}
use Rattle.base.proofs.Tests.{and_both, bool_cases, eqb-eq, eqb-self, neither_left, neither_right, or_right, tests}
use Rattle.logic.proofs.SpecimenTrees.Names.{Different, different-names, member-names}
use Rattle.logic.specs.Background.{Background}
use Rattle.logic.specs.Normal.{find, found, sub}
use Rattle.logic.specs.Place.{Place, atom, has, lacks, least, most, nothing}
use Rattle.logic.specs.SpecimenTree.{KeepsTop, KeptBelow, SpecimenTree, each_in, given, total}
use Rattle.logic.specs.Tree.{end, leaf, node}
use Rattle.logic.specs.Witness.{Target, below, build, count_for, groups_by, member, names, next, off, on, path, path_of, target_links, target_properties, want, with_properties, witness}

-- ---- groups

module _ (f : ℕ → ℕ) (s : ℕ → SpecimenTree) where
  -- the groups by a link
  total-groups : (l : ℕ) (ls : List ℕ) → Different ls → total l (groups_by ls f s) ≡ cond (member l ls) (f l) 0
  unfolding total groups_by member
  total-groups l [] u = refl
  total-groups l (a ∷ ls) u =
      bool_cases (eqb l a)
      (λ q. let e : l ≡ a = eqb-eq q in
      let z : member l ls ≡ false = rw e u.0 in
      let ih : total l (groups_by ls f s) ≡ 0 = total-groups l ls u.1 ∙ rw z in
      bool_cases (eqb (f a) 0)
      (λ h. rw (h, q, ih, e) (omega tests))
      (λ h. rw (h, q, ih, e) (omega tests)))
      (λ q. bool_cases (eqb (f a) 0)
      (λ h. rw (h, q, total-groups l ls u.1))
      (λ h. rw (h, q, total-groups l ls u.1) (omega tests)))

  -- groups give no property
  given-groups : (p : ℕ) (ls : List ℕ) → given p (groups_by ls f s) ≡ false
  unfolding given groups_by
  given-groups p [] = refl
  given-groups p (a ∷ ls) = bool_cases (eqb (f a) 0) (λ h. rw (h, given-groups p ls)) (λ h. rw (h, given-groups p ls))

  -- a test of the groups by a link
  each-groups : (l : ℕ) (p : SpecimenTree → Bool) (ls : List ℕ) → p (s l) ≡ true → each_in l p (groups_by ls f s) ≡ true
  unfolding each_in groups_by
  each-groups l p [] e = refl
  each-groups l p (a ∷ ls) e =
      bool_cases (eqb (f a) 0)
      (λ h. rw (h, each-groups l p ls e))
      (λ h.
      let z : (not (eqb l a) || p (s a)) ≡ true
      = bool_cases (eqb l a) (λ q. let i : l ≡ a = eqb-eq q in or_right (not (eqb l a)) (rw i at e)) (λ q. rw q) in
      rw h (and_both z (each-groups l p ls e)))

  not-each-groups : (l : ℕ) (p : SpecimenTree → Bool) (ls : List ℕ) → p (s l) ≡ false → member l ls ≡ true → 0 < f l
      → each_in l p (groups_by ls f s) ≡ false
  unfolding each_in groups_by member
  not-each-groups l p [] e h i = sym h
  not-each-groups l p (a ∷ ls) e h i =
      bool_cases (eqb l a)
      (λ q.
      let z : l ≡ a = eqb-eq q in
      let y : eqb (f a) 0 ≡ false = rw (← z) (omega tests) in
      rw (y, q, ← z, e))
      (λ q.
      let ih : each_in l p (groups_by ls f s) ≡ false = not-each-groups l p ls e (rw q at h) i in
      bool_cases (eqb (f a) 0) (λ y. rw (y, ih)) (λ y. rw (y, ih, q)))

  -- what keeps a background in each group
  kept-groups : (b : Background) (ls : List ℕ) → ((l : ℕ) → KeepsTop b (s l) × KeptBelow b (s l)) → KeptBelow b (groups_by ls f s)
  unfolding groups_by
  kept-groups b [] h = tt
  kept-groups b (a ∷ ls) h =
      bool_cases (eqb (f a) 0)
      (λ q. rw q (kept-groups b ls h))
      (λ q. rw q ((h a).0, (h a).1, kept-groups b ls h))

-- ---- properties

total-properties : (l : ℕ) (ps : List ℕ) (s : SpecimenTree) → total l (with_properties ps s) ≡ total l s
unfolding total with_properties
total-properties l [] s = refl
total-properties l (p ∷ ps) s = total-properties l ps s

each-properties : (l : ℕ) (f : SpecimenTree → Bool) (ps : List ℕ) (s : SpecimenTree) → each_in l f (with_properties ps s) ≡ each_in l f s
unfolding each_in with_properties
each-properties l f [] s = refl
each-properties l f (p ∷ ps) s = each-properties l f ps s

given-properties : (q : ℕ) (ps : List ℕ) (s : SpecimenTree) → given q (with_properties ps s) ≡ member q ps || given q s
unfolding given with_properties member
given-properties q [] s = refl
given-properties q (p ∷ ps) s = rw (given-properties q ps s) (sym (or_assoc (eqb q p) (member q ps) (given q s)))

kept-properties : (b : Background) (ps : List ℕ) (s : SpecimenTree) → KeptBelow b s → KeptBelow b (with_properties ps s)
unfolding with_properties
kept-properties b [] s h = h
kept-properties b (p ∷ ps) s h = kept-properties b ps s h

-- ---- the target

-- a target names a link once
different-target : (g : Target) → Different (target_links g)
unfolding member
different-target off = tt
different-target (on [] (atom has n m)) = tt
different-target (on [] (atom lacks n m)) = tt
different-target (on [] (atom least n m)) = tt
different-target (on [] (atom most n m)) = (refl, tt)
different-target (on [] (atom nothing n m)) = tt
different-target (on (l ∷ w) a) = (refl, tt)

-- the target asks for no items by other links
pub want-none : (g : Target) (l : ℕ) → member l (target_links g) ≡ false → want g l ≡ 0
unfolding member
want-none off l e = refl
want-none (on [] (atom has n m)) l e = refl
want-none (on [] (atom lacks n m)) l e = refl
want-none (on [] (atom least n m)) l e = refl
want-none (on [] (atom most n m)) l e = rw (neither_left (eqb l n) false e)
want-none (on [] (atom nothing n m)) l e = refl
want-none (on (l' ∷ w) a) l e = rw (neither_left (eqb l l') false e)

-- no number
found_none : (o : Option ℕ) → found o ≡ false → o ≡ none
found_none none e = refl
found_none (some m) e = cc

-- ---- one place of the specimen

module _ (f : ℕ → Target → SpecimenTree) (t : Place) (g : Target) where
  given-build : (p : ℕ) → given p (build f t g) ≡ found (find has p t) || member p (target_properties g)
  unfolding build
  given-build p = given-properties p _ _ ∙ rw (given-groups, member-names) (or-false _)

  total-build : (l : ℕ) → total l (build f t g) ≡ count_for t g l
  unfolding build
  total-build l =
      total-properties l _ _ ∙ total-groups _ _ l _ (different-names least t (target_links g) (different-target g)) ∙ rw member-names
      (bool_cases (found (find least l t) || member l (target_links g))
      (λ q. rw q)
      (λ q. rw (
        q,
        found_none (find least l t) (neither_left (found (find least l t)) (member l (target_links g)) q),
        want-none g l (neither_right (found (find least l t)) (member l (target_links g)) q),
      )))

  each-build : (l : ℕ) (p : SpecimenTree → Bool) → p (f l (next g l)) ≡ true → each_in l p (build f t g) ≡ true
  unfolding build
  each-build l p e = each-properties l p _ _ ∙ each-groups _ _ l p _ e

  not-each-build : (l : ℕ) (p : SpecimenTree → Bool) → p (f l (next g l)) ≡ false → member l (target_links g) ≡ true → 0 < want g l
      → each_in l p (build f t g) ≡ false
  unfolding build
  not-each-build l p e h i =
      each-properties l p _ _ ∙ not-each-groups _ _ l p _ e (member-names least l t (target_links g) ∙ or_right (found (find least l t)) h) (omega arith)

  kept-build : (b : Background) → ((l : ℕ) → KeepsTop b (f l (next g l)) × KeptBelow b (f l (next g l))) → KeptBelow b (build f t g)
  unfolding build
  kept-build b h = kept-properties b _ _ (kept-groups _ _ b _ h)

-- ---- the whole specimen

path-witness : (g : Target) → path_of g ≡ witness end g
unfolding path witness build names with_properties groups_by below find
path-witness off = refl
path-witness (on [] a) = refl
path-witness (on (l ∷ w) a) = rw (eqb-self l)

-- the specimen of the place that a link leads to
pub below-witness : (t : Place) (l : ℕ) (g : Target) → below t l g ≡ witness (sub l t) g
unfolding below sub
below-witness end l g = path-witness g
below-witness (leaf a r) l g = below-witness r l g
below-witness (node l' s r) l g =
    bool_cases (eqb l l')
    (λ q. rw q (unfold witness in refl))
    (λ q. rw q (below-witness r l g))

module _ (t : Place) (g : Target) where
  -- its properties: those that are listed, and the target's
  pub given-witness : (p : ℕ) → given p (witness t g) ≡ found (find has p t) || member p (target_properties g)
  unfolding witness
  given-witness p = given-build _ t g p

  pub total-witness : (l : ℕ) → total l (witness t g) ≡ count_for t g l
  unfolding witness
  total-witness l = total-build _ t g l

  -- a test passes at the items by link l if it passes at the specimen of the place below
  pub each-witness : (l : ℕ) (p : SpecimenTree → Bool) → p (witness (sub l t) (next g l)) ≡ true → each_in l p (witness t g) ≡ true
  unfolding witness
  each-witness l p e = each-build (λ l' g'. below t l' g') t g l p (rw (below-witness t l (next g l)) e)

  -- and it fails if it fails there, and the target asks for items by l
  pub not-each-witness : (l : ℕ) (p : SpecimenTree → Bool) → p (witness (sub l t) (next g l)) ≡ false → member l (target_links g) ≡ true
      → 0 < want g l → each_in l p (witness t g) ≡ false
  unfolding witness
  not-each-witness l p e h i = not-each-build (λ l' g'. below t l' g') t g l p (rw (below-witness t l (next g l)) e) h i

  -- items keep a background if those of the places below do
  pub kept-witness : (b : Background)
      → ((l : ℕ) → KeepsTop b (witness (sub l t) (next g l)) × KeptBelow b (witness (sub l t) (next g l))) → KeptBelow b (witness t g)
  unfolding witness
  kept-witness b h = kept-build (λ l' g'. below t l' g') t g b (λ l. rw (below-witness t l (next g l)) (h l))
