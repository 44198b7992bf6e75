-- One meaning, one normal form: two normal places that the same items fit are equal.
-- Assumes nothing.
use Prim.Native.Nat.{ℕ}
use lib.Dec.{eqb, leb}
use mathlib.Core.Bool.{false, false≢true, not, true}
use mathlib.Core.List.{List, [], ◌∷◌}
use mathlib.Core.Logic.{inl, inr}
use mathlib.Core.Option.{none, some}
use mathlib.Core.Path.{◌∙◌, ◌≡◌, ap, refl, sym}
use Rattle.base.proofs.Missing.{not-true, opt_cases, some-none}
use Rattle.base.proofs.Tests.{and_both, and_left, bool_cases, both_ways, false_of_not, not-to-true, or_cases, tests}
use Rattle.logic.proofs.NormalForm.Fits.{find-sound, fits_sub, linked-follows}
use Rattle.logic.proofs.NormalForm.IsNormal.{canonical-sub, nf-normal}
use Rattle.logic.proofs.NormalForm.Sound.{nf-sound}
use Rattle.logic.proofs.OneMeaning.HoldsExactly.{holds_at-complete}
use Rattle.logic.proofs.PlaceTrees.Extensional.{extensional}
use Rattle.logic.proofs.PlaceTrees.Listed.{not-implied}
use Rattle.logic.proofs.PlaceTrees.Lookup.{excluder, find_head, is-end, is-excluded, sub-head}
use Rattle.logic.proofs.SpecimenTrees.WitnessKeeps.{counterexample}
use Rattle.logic.specs.Background.{Background, LawfulBackground}
use Rattle.logic.specs.Canonical.{Canonical, Clean, Normal, canonical, telling}
use Rattle.logic.specs.Holds.{holds_at}
use Rattle.logic.specs.Meaning.{Equivalent}
use Rattle.logic.specs.Normal.{at_most, bottom, excluded, find, is_end, nf, sub, supports}
use Rattle.logic.specs.Place.{Atom, Kind, Place, atom, has, lacks, least, most, nothing}
use Rattle.logic.specs.Record.{Record, along, fits, meets}
use Rattle.logic.specs.Tree.{end, leaf, node}

-- ---- what a place lists at a path of links

-- the place that the links w lead to lists the atom
abbrev Lists : List ℕ → Atom → Place → Type 0
Lists [] (atom k n m) t = find k n t ≡ some m
Lists (l ∷ w) a t = Lists w a (sub l t)

lists-none {ℓ} : {A : Type ℓ} (w : List ℕ) (a : Atom) → Lists w a end → A
unfolding find sub
lists-none [] (atom k n m) h = some-none h refl
lists-none (l ∷ w) a h = lists-none w a h

-- what a place lists, it says
lists-sound : (c : Record) (w : List ℕ) (a : Atom) (t : Place) (x : ℕ) → Lists w a t → fits c t x ≡ true → along c w x (meets c a) ≡ true
unfolding along
lists-sound c [] (atom k n m) t x h f = find-sound c k n t m x h f
lists-sound c (l ∷ w) a t x h f =
    linked-follows c l x (λ y. fits c (sub l t) y) (λ y. along c w y (meets c a)) (λ y i g. lists-sound c w a (sub l t) y h g) (fits_sub c l t x f)

module _ {b : Background} (law : LawfulBackground b) where
  -- t holds what u lists
  record Covers (t u : Place) : Type 0 where
    pub covers : (w : List ℕ) (a : Atom) → Lists w a u → holds_at b t w a ≡ true

  -- at the place itself it supports it
  supported : {t u : Place} → Covers t u → (k : Kind) (n m : ℕ) → find k n u ≡ some m → supports b t (atom k n m) ≡ true
  unfolding holds_at
  supported v k n m e = v.covers [] (atom k n m) e

  -- ---- what is listed at the place itself

  -- what u excludes, t excludes
  excluded-covered : {t u : Place} → Covers t u → (p : ℕ) → excluded b p u ≡ true → excluded b p t ≡ true
  excluded-covered {t} {u} v p e =
      let x = excluder b p u e in
      opt_cases (find has x.name t)
      (λ q. both_ways (supported v has x.name x.number x.listed) (rw q))
      (λ m q. is-excluded b p t (record { name = x.name; number = m; listed = q; against = x.against }))

  -- what tells something and is supported is listed
  supported-listed : (t : Place) (k : Kind) (n m : ℕ) → telling b t (atom k n m) ≡ true → supports b t (atom k n m) ≡ true
      → find k n t ≡ none → ⊥
  supported-listed t has n m g e z = both_ways e (rw z)
  supported-listed t lacks n m g e z =
      both_ways (rw z at e) (not-implied b t lacks n m g refl)
  supported-listed t least n m g e z = let y : eqb m 0 ≡ true = rw z at e in false≢true (rw y at g)
  supported-listed t most n m g e z = both_ways (rw z at e) (false_of_not (at_most m (b.cap n)) g)
  supported-listed t nothing n m g e z = false≢true e

  -- of two numbers that are listed, each supporting the other
  same_number : (t u : Place) (k : Kind) (n m m' : ℕ) → telling b t (atom k n m) ≡ true → telling b u (atom k n m') ≡ true
      → find k n t ≡ some m → find k n u ≡ some m'
      → supports b t (atom k n m') ≡ true → supports b u (atom k n m) ≡ true → m ≡ m'
  same_number t u has n m m' p p' e e' h h' = omega tests
  same_number t u lacks n m m' p p' e e' h h' =
      let x : eqb m 0 ≡ true = and_left (eqb m 0) (not (excluded b n t)) p in
      let y : eqb m' 0 ≡ true = and_left (eqb m' 0) (not (excluded b n u)) p' in
      omega tests
  same_number t u least n m m' p p' e e' h h' =
      let x : leb m' m ≡ true = rw e at h in let y : leb m m' ≡ true = rw e' at h' in omega tests
  same_number t u most n m m' p p' e e' h h' =
      let c : at_most m (b.cap n) ≡ false = false_of_not (at_most m (b.cap n)) p in
      let c' : at_most m' (b.cap n) ≡ false = false_of_not (at_most m' (b.cap n)) p' in
      let x : leb m m' ≡ true = or_cases (leb m m') (at_most m' (b.cap n)) (rw e at h) (λ z. z) (λ z. both_ways z c') in
      let y : leb m' m ≡ true = or_cases (leb m' m) (at_most m (b.cap n)) (rw e' at h') (λ z. z) (λ z. both_ways z c) in
      omega tests
  same_number t u nothing n m m' p p' e e' h h' = absurd (false≢true p)

  -- what tells something in u does so in t, which u covers
  telling-covered : {t u : Place} → Covers u t → (k : Kind) (n m : ℕ) → telling b u (atom k n m) ≡ true → telling b t (atom k n m) ≡ true
  telling-covered v has n m g = g
  telling-covered {t} {u} v lacks n m g =
      let z : excluded b n t ≡ false = not-true (λ y. both_ways (excluded-covered v n y) (not-implied b u lacks n m g refl)) in
      and_both (and_left (eqb m 0) (not (excluded b n u)) g) (not-to-true z)
  telling-covered v least n m g = g
  telling-covered v most n m g = g
  telling-covered v nothing n m g = g

  -- places that cover each other list the same
  same-find : {t u : Place} → Clean b t → Clean b u → Covers t u → Covers u t → (k : Kind) (n : ℕ) → find k n t ≡ find k n u
  same-find {t} {u} c d v v' k n =
      opt_cases (find k n t)
      (λ e. opt_cases (find k n u)
      (λ e'. cc)
      (λ m' e'. absurd (supported-listed t k n m' (telling-covered v' k n m' (d k n m' e').1) (supported v k n m' e') e)))
      (λ m e. opt_cases (find k n u)
      (λ e'. absurd (supported-listed u k n m (telling-covered v k n m (c k n m e).1) (supported v' k n m e) e'))
      (λ m' e'. cc (same_number t u k n m m' (c k n m e).1 (d k n m' e').1 e e' (supported v k n m' e') (supported v' k n m e))))

  -- ---- what is listed below

  -- where t and u list the same, what t owns by a link covers what u owns by it
  covers-sub : {t u : Place} → Canonical b u → ((k : Kind) (n : ℕ) → find k n t ≡ find k n u) → Covers t u → (l : ℕ)
      → Covers (sub l t) (sub l u)
  unfolding holds_at
  covers-sub {t} {u} (canonical a c d s) f v l =
      record {
        covers = λ w x h. or_cases (supports b t (atom most l 0)) (holds_at b (sub l t) w x) (v.covers (l ∷ w) x h)
            (λ z. bool_cases (is_end (sub l u))
            (λ e. lists-none w x (rw (is-end (sub l u) e) at h))
            (λ e. both_ways (rw (f most l) at z) (d l e)))
            (λ z. z);
      }

  -- a place that asks nothing covers no other normal place
  covers-none : (u : Place) → Canonical b u → Covers end u → u ≡ end
  unfolding holds_at find sub excluded
  covers-none end h v = refl
  covers-none (leaf (atom k n m) r) (canonical a c d s) v =
      let nothing-listed : Covers (leaf (atom k n m) r) end = record { covers = λ w x h. lists-none w x h } in
      let tells = telling-covered nothing-listed k n m (c k n m (find_head k n m r)).1 in
      absurd (supported-listed end k n m tells (supported v k n m (find_head k n m r)) refl)
  covers-none (node l s r) (canonical a c d f) v =
      let i : sub l (node l s r) ≡ s = sub-head l s r in
      let inner : Covers end s
      = record {
        covers = λ w x h. or_cases (supports b end (atom most l 0)) (holds_at b end w x) (v.covers (l ∷ w) x (rw i h))
            (λ z. opt_cases (b.cap l)
            (λ q. both_ways z (rw q))
            (λ m q. let y : leb m 0 ≡ true = rw q at z in absurd (omega (tests, law.some_item l m q))))
            (λ z. z);
      } in
      both_ways (rw (covers-none s (rw i at (f l (rw i a.1))) inner)) a.1

  -- two normal places that cover each other are one
  covers-equal : (t u : Place) → Canonical b t → Canonical b u → Covers t u → Covers u t → t ≡ u
  covers-equal t u (canonical a c d s) (canonical a' c' d' s') v v' =
      let f : (k : Kind) (n : ℕ) → find k n t ≡ find k n u = same-find c c' v v' in
      let below : (l : ℕ) → Covers (sub l t) (sub l u) = covers-sub (canonical a' c' d' s') f v in
      let below' : (l : ℕ) → Covers (sub l u) (sub l t) = covers-sub (canonical a c d s) (λ k n. sym (f k n)) v' in
      let sub-u : (l : ℕ) → Canonical b (sub l u) = λ l. canonical-sub law l u (canonical a' c' d' s') in
      extensional t u a a' f (λ l. bool_cases (is_end (sub l t))
      (λ e. let i : sub l t ≡ end = is-end (sub l t) e in i ∙ sym (covers-none (sub l u) (sub-u l) (rw i at (below l))))
      (λ e. covers-equal (sub l t) (sub l u) (s l e) (sub-u l) (below l) (below' l)))

  -- ---- one meaning

  -- a normal place holds what another with its meaning lists
  equivalent-covers : (t u : Place) → Canonical b t → Equivalent b t u → Covers t u
  equivalent-covers t u h f =
      record {
        covers = λ w a i. holds_at-complete law h w a (λ c kept x j y. lists-sound c w a u x i (sym (f c kept x j) ∙ y));
      }

  -- some item fits a normal place that is alive
  not-bottom : (t : Place) → Canonical b t → Equivalent b t bottom → ⊥
  unfolding holds_at fits
  not-bottom t h f =
      let x = counterexample law h [] (atom nothing 0 0) refl in
      both_ways (sym (f x.shown x.kept x.item x.inside) ∙ x.fitting) refl

  -- two normal places that the same items fit are one
  pub one-normal : (t u : Place) → Normal b t → Normal b u → Equivalent b t u → t ≡ u
  one-normal t u (inl e) (inl e') f = e ∙ sym e'
  one-normal t u (inl e) (inr h) f = absurd (not-bottom u h (λ c kept x i. sym (f c kept x i) ∙ rw e))
  one-normal t u (inr h) (inl e) f = absurd (not-bottom t h (λ c kept x i. f c kept x i ∙ rw e))
  one-normal t u (inr h) (inr h') f = covers-equal t u h h' (equivalent-covers t u h f) (equivalent-covers u t h' (λ c kept x i. sym (f c kept x i)))

  -- the normal form is the one normal place with the description's meaning, however it is found
  pub only-normal : (t d : Place) → Normal b t → Equivalent b t d → t ≡ nf b d
  only-normal t d n f = one-normal t (nf b d) n (nf-normal law d) (λ c kept x i. f c kept x i ∙ sym (nf-sound c kept d x i))

  -- one meaning, one normal form
  pub unique : (d e : Place) → Equivalent b d e → nf b d ≡ nf b e
  unique d e f = only-normal (nf b d) e (nf-normal law d) (λ c kept x i. nf-sound c kept d x i ∙ f c kept x i)

  -- and one normal form, one meaning
  pub same-normal : (d e : Place) → nf b d ≡ nf b e → Equivalent b d e
  same-normal d e q c kept x i = sym (nf-sound c kept d x i) ∙ ap (λ (t : Place). fits c t x) q ∙ nf-sound c kept e x i

  -- a normal place is its own normal form
  pub normal-fixed : (t : Place) → Normal b t → nf b t ≡ t
  normal-fixed t n = sym (only-normal t t n (λ c kept x i. refl))

  pub idempotent : (d : Place) → nf b (nf b d) ≡ nf b d
  idempotent d = normal-fixed (nf b d) (nf-normal law d)
