-- The normal form is fitted by the same items, in every record that keeps the background.
-- Assumes nothing.
use Prim.Native.Nat.{◌<◌, ◌≤◌, ℕ}
use lib.Dec.{eqb, leb, ltb}
use mathlib.Core.Bool.{Bool, ◌&&◌, ◌||◌, and_assoc, and-true, false, false≢true, not, or-and_distrib_left, true}
use mathlib.Core.Option.{Option, none, some}
use mathlib.Core.Path.{◌∙◌, ◌≡◌, ap, refl, sym}
use Rattle.base.proofs.Missing.{and-cong, and-cong-left, and-drop, and-never, opt_cases}
use Rattle.base.proofs.Tests.{and_left, and_right, and_zero, bool_cases, both_ways, false_of_not, le-leb, leb-le, neither_left, not-to-true, or_cases, or_right, tests}
use Rattle.logic.proofs.NormalForm.Fits.{bottom-sound, end-sound, find-sound, fits_sub, linked-bottom, linked-none, put-sound, put_every-sound, remove-sound, sub-sound}
use Rattle.logic.proofs.PlaceTrees.Lookup.{excluder, same_rank}
use Rattle.logic.proofs.PlaceTrees.Passes.{find-remove_every, find-remove_lacks}
use Rattle.logic.proofs.Records.Counting.{every-and, every-ext, every_of}
use Rattle.logic.specs.Background.{Background, Keeps}
use Rattle.logic.specs.Normal.{add, at_most, clash, clear, excluded, fill, find, found, insert, is_bottom, is_end, nf, rank, remove_every, remove_lacks, stored, sub, supports, under, within}
use Rattle.logic.specs.Place.{Atom, Kind, Place, atom, has, lacks, least, most, nothing}
use Rattle.logic.specs.Record.{Record, each_linked, fits, meets, successors}
use Rattle.logic.specs.Tree.{end, leaf, node}

-- ---- bounds

-- a count that a number bounds, if there is one, is within what that number supports
bounded : (o : Option ℕ) (s m : ℕ) → ((q : ℕ) → o ≡ some q → s ≤ q) → at_most m o ≡ true → s ≤ m
bounded none s m f e = absurd (false≢true e)
bounded (some q) s m f e = omega (tests, f q refl)

bounded-under : (o : Option ℕ) (s m : ℕ) → ((q : ℕ) → o ≡ some q → s ≤ q) → under m o ≡ true → s < m
bounded-under none s m f e = absurd (false≢true e)
bounded-under (some q) s m f e = omega (tests, f q refl)

module _ (c : Record) {b : Background} (kept : Keeps b c) where
  -- an item has no property that a listed one excludes
  excluded-sound : (p : ℕ) (t : Place) (x : ℕ) → x < c.size → excluded b p t ≡ true → fits c t x ≡ true → c.property p x ≡ false
  excluded-sound p t x i e h =
      let z = excluder b p t e in
      let q : c.property z.name x ≡ true = find-sound c has z.name t z.number x z.listed h in
      rw q at (kept.exclusions z.name p x z.against i)

  -- a place that is fitted says what it supports
  pub supports-sound : (t : Place) (a : Atom) (x : ℕ) → x < c.size → supports b t a ≡ true → fits c t x ≡ true → meets c a x ≡ true
  supports-sound t (atom has p m) x i e h = opt_cases (find has p t) (λ q. cc) (λ m' q. find-sound c has p t m' x q h)
  supports-sound t (atom lacks p m) x i e h =
      or_cases (found (find lacks p t)) (excluded b p t) e
      (λ z. opt_cases (find lacks p t) (λ q. cc) (λ m' q. find-sound c lacks p t m' x q h))
      (λ z. not-to-true (excluded-sound p t x i z h))
  supports-sound t (atom least l m) x i e h =
      opt_cases (find least l t)
      (λ q. let z : eqb m 0 ≡ true = rw q at e in omega tests)
      (λ m' q.
      let z : leb m m' ≡ true = rw q at e in
      let w : leb m' (successors c l x) ≡ true = find-sound c least l t m' x q h in
      omega tests)
  supports-sound t (atom most l m) x i e h =
      le-leb
      (or_cases (at_most m (find most l t)) (at_most m (b.cap l)) e
      (λ z. bounded (find most l t) (successors c l x) m (λ q f. leb-le (find-sound c most l t q x f h)) z)
      (λ z. bounded (b.cap l) (successors c l x) m (λ q f. kept.caps l q x f i) z))
  supports-sound t (atom nothing n m) x i e h = cc

  -- no item that fits a place meets what it rules out
  pub clash-sound : (t : Place) (a : Atom) (x : ℕ) → x < c.size → clash b t a ≡ true → meets c a x ≡ true → fits c t x ≡ true → ⊥
  clash-sound t (atom has p m) x i e g h = both_ways g (false_of_not (c.property p x) (supports-sound t (atom lacks p m) x i e h))
  clash-sound t (atom lacks p m) x i e g h = both_ways (supports-sound t (atom has p m) x i e h) (false_of_not (c.property p x) g)
  clash-sound t (atom least l m) x i e g h =
      or_cases (under m (find most l t)) (under m (b.cap l)) e
      (λ z. omega (tests, bounded-under (find most l t) (successors c l x) m (λ q f. leb-le (find-sound c most l t q x f h)) z))
      (λ z. omega (tests, bounded-under (b.cap l) (successors c l x) m (λ q f. kept.caps l q x f i) z))
  clash-sound t (atom most l m) x i e g h =
      opt_cases (find least l t)
      (λ q. let z : false ≡ true = rw q at e in false≢true z)
      (λ m' q.
      let z : ltb m m' ≡ true = rw q at e in
      let w : leb m' (successors c l x) ≡ true = find-sound c least l t m' x q h in
      omega tests)
  clash-sound t (atom nothing n m) x i e g h = false≢true g

  -- what a place lists and does not support is less than the entry asks
  weaker : (t : Place) (k : Kind) (n m x : ℕ) → supports b t (atom k n m) ≡ false → meets c (atom k n m) x ≡ true
      → (m' : ℕ) → find k n t ≡ some m' → meets c (atom k n m') x ≡ true
  weaker t has n m x e g m' q = g
  weaker t lacks n m x e g m' q = g
  weaker t least n m x e g m' q = let z : leb m m' ≡ false = rw q at e in omega tests
  weaker t most n m x e g m' q =
      let z : leb m' m ≡ false = rw q at (neither_left (at_most m (find most n t)) (at_most m (b.cap n)) e) in omega tests
  weaker t nothing n m x e g m' q = cc

  -- the lacks that a property implies are met where it is
  remove_lacks-sound : (p : ℕ) (t : Place) (x : ℕ) → x < c.size → c.property p x ≡ true → fits c (remove_lacks b p t) x ≡ fits c t x
  unfolding remove_lacks fits
  remove_lacks-sound p end x i g = refl
  remove_lacks-sound p (leaf (atom k q m) r) x i g =
      bool_cases (eqb (rank lacks) (rank k) && b.excludes p q)
      (λ z.
      let j : lacks ≡ k = same_rank lacks k (and_left (eqb (rank lacks) (rank k)) (b.excludes p q) z) in
      let y : c.property q x ≡ false = rw g at (kept.exclusions p q x (and_right (eqb (rank lacks) (rank k)) (b.excludes p q) z) i) in
      let w : meets c (atom k q m) x ≡ true = rw (← j, y) in
      rw (z, w, remove_lacks-sound p r x i g))
      (λ z. rw (z, remove_lacks-sound p r x i g))
  remove_lacks-sound p (node l s r) x i g = rw (remove_lacks-sound p r x i g)

  -- what an atom makes idle is met where the atom is
  clear-sound : (t : Place) (a : Atom) (x : ℕ) → x < c.size → meets c a x ≡ true → fits c (clear b a t) x ≡ fits c t x
  clear-sound t (atom has p m) x i g = remove_lacks-sound p t x i g
  clear-sound t (atom lacks p m) x i g = refl
  clear-sound t (atom least l m) x i g = refl
  clear-sound t (atom most l m) x i g =
      bool_cases (eqb m 0)
      (λ q. rw (q, sub-sound c l t x, linked-none c l x (λ y. fits c (sub l t) y) (omega tests)))
      (λ q. rw q)
  clear-sound t (atom nothing n m) x i g = refl

  -- an entry of the atom's own kind and name stays
  find-clear : (k : Kind) (n m : ℕ) (t : Place) → find k n (clear b (atom k n m) t) ≡ find k n t
  find-clear has n m t = find-remove_lacks b n has n t
  find-clear lacks n m t = refl
  find-clear least n m t = refl
  find-clear most n m t = bool_cases (eqb m 0) (λ q. rw q (find-remove_every most n n t)) (λ q. rw q)
  find-clear nothing n m t = refl

  -- a property has no number
  meets-stored : (k : Kind) (n m x : ℕ) → meets c (atom k n (stored k m)) x ≡ meets c (atom k n m) x
  meets-stored has n m x = refl
  meets-stored lacks n m x = refl
  meets-stored least n m x = refl
  meets-stored most n m x = refl
  meets-stored nothing n m x = refl

  -- a place with an atom added is fitted by the items that fit the place and meet the atom
  pub insert-sound : (a : Atom) (t : Place) (x : ℕ) → x < c.size → fits c (insert b a t) x ≡ meets c a x && fits c t x
  unfolding insert fits
  insert-sound (atom k n m) t x i =
      bool_cases (is_bottom t)
      (λ d. rw (d, bottom-sound c t x d) (sym (and_zero (meets c (atom k n m) x))))
      (λ d. bool_cases (supports b t (atom k n m))
      (λ s. rw (d, s) (sym (and-drop (supports-sound t (atom k n m) x i s))))
      (λ s. bool_cases (clash b t (atom k n m))
      (λ z. rw (d, s, z) (sym (and-never (clash-sound t (atom k n m) x i z))))
      (λ z. rw (d, s, z, put-sound, meets-stored) (and-cong (meets c (atom k n m) x)
      (λ g. remove-sound c k n (clear b (atom k n m) t) x (λ m' q. weaker t k n m x s g m' (sym (find-clear k n m t) ∙ q))
      ∙ clear-sound t (atom k n m) x i g)))))

  module _ (l : ℕ) (f : Place → Place) (s : Place)
      (f-sound : (u : Place) (y : ℕ) → y < c.size → fits c (f u) y ≡ fits c s y && fits c u y) where
    -- the linked items fit what f makes of u exactly if they fit s and u
    linked-f : (u : Place) (x : ℕ)
        → each_linked c l x (λ y. fits c (f u) y) ≡ each_linked c l x (λ y. fits c s y) && each_linked c l x (λ y. fits c u y)
    linked-f u x =
        every-ext _ _ c.size
        (λ y h. ap (λ (z : Bool). not (c.link l x y) || z) (f-sound u y h) ∙ or-and_distrib_left (not (c.link l x y)) (fits c s y) (fits c u y))
        ∙ every-and (λ y. not (c.link l x y) || fits c s y) (λ y. not (c.link l x y) || fits c u y) c.size

    -- where t is fitted, the 'every' of s is that of the two places together
    linked-s : (t : Place) (x : ℕ) → fits c t x ≡ true → each_linked c l x (λ y. fits c (f (sub l t)) y) ≡ each_linked c l x (λ y. fits c s y)
    linked-s t x h = linked-f (sub l t) x ∙ rw (fits_sub c l t x h) (and-true _)

    -- a place with what f adds under a link is fitted by the items that fit the place and whose linked items fit what f adds
    pub within-sound : (t : Place) (x : ℕ) → x < c.size → fits c (within b l f t) x ≡ each_linked c l x (λ y. fits c s y) && fits c t x
    unfolding within fill
    within-sound t x i =
        bool_cases (is_bottom t)
        (λ d. rw (d, bottom-sound c t x d) (simp and_zero))
        (λ d. bool_cases (supports b t (atom most l 0))
        (λ q. rw (d, q) (sym (and-drop {a = each_linked c l x (λ y. fits c s y)} (λ h.
        let z : leb (successors c l x) 0 ≡ true = supports-sound t (atom most l 0) x i q h in
        linked-none c l x (λ y. fits c s y) (omega tests)))))
        (λ q. bool_cases (is_bottom (f (sub l t)))
        (λ z. rw (d, q, z) (insert-sound (atom most l 0) t x i
        ∙ and-cong-left (λ h. sym (linked-bottom c l x _ (λ y. bottom-sound c (f (sub l t)) y z)) ∙ linked-s t x h)))
        (λ z. bool_cases (is_end (f (sub l t)))
        (λ e. rw (d, q, z, e)
        (sym (and-drop (λ h. sym (linked-s t x h) ∙ every_of _ _ (λ y _. or_right (not (c.link l x y)) (end-sound c (f (sub l t)) y e))))))
        (λ e. rw (d, q, z, e)
        (put_every-sound c l (f (sub l t)) (remove_every l t) x ∙ rw (linked-f (sub l t) x, sub-sound c l t x) (simp and_assoc))))))

  -- a place with the entries of another added is fitted by the items that fit both
  pub add-sound : (d t : Place) (x : ℕ) → x < c.size → fits c (add b d t) x ≡ fits c d x && fits c t x
  unfolding add fits
  add-sound end t x i = refl
  add-sound (leaf a r) t x i =
      insert-sound a (add b r t) x i ∙ rw (add-sound r t x i) (sym (and_assoc (meets c a x) (fits c r x) (fits c t x)))
  add-sound (node l s r) t x i =
      within-sound l (λ u. add b s u) s (λ u y h. add-sound s u y h) (add b r t) x i
      ∙ rw (add-sound r t x i) (sym (and_assoc (each_linked c l x (λ y. fits c s y)) (fits c r x) (fits c t x)))

-- the normal form means what the description means, for the records that keep the background
pub nf-sound : {b : Background} (c : Record) → Keeps b c → (d : Place) (x : ℕ) → x < c.size → fits c (nf b d) x ≡ fits c d x
unfolding nf fits
nf-sound c kept d x i = add-sound c kept d end x i ∙ and-true (fits c d x)
