-- What is made below a link, a property that both places have, and bounds of both.
-- Assumes nothing.
use Prim.Native.Nat.{max, min, ℕ}
use lib.Dec.{eqb, leb}
use mathlib.Core.Bool.{Bool, ◌&&◌, ◌||◌, and-false, false, false≢true, true, true≢false}
use mathlib.Core.List.{List}
use mathlib.Core.Option.{Option, none, some}
use mathlib.Core.Path.{◌≡◌, refl, sym}
use Rattle.base.proofs.Tests.{and_both, and_left, and_right, bool_cases, both_ways, iff-eq, or_cases, or_left, or_right, tests}
use Rattle.logic.proofs.PlaceTrees.Lookup.{find_head, same_rank}
use Rattle.logic.specs.Background.{Background}
use Rattle.logic.specs.Canonical.{Ascending}
use Rattle.logic.specs.Normal.{at_most, enough, find, found, is_end, rank, sub}
use Rattle.logic.specs.Place.{Kind, Place, atom, has, least}
use Rattle.logic.specs.Tree.{end, leaf, node}
use Rattle.logic.specs.Witness.{or_zero}
use Rattle.narrow.specs.Join.{implied, joined_below, joined_place, larger}
use Rattle.passes.specs.code.Slots.{value}

-- ---- what is made below a link

module _ (b : Background) (ps : List ℕ) where
  pub below-none : (t : Place) (l : ℕ) (v : Place) → Ascending t → is_end (sub l t) ≡ true → joined_below b ps t l v ≡ end
  unfolding joined_below sub
  below-none end l v a e = refl
  below-none (leaf (atom k n m) r) l v a e = below-none r l v a.1 e
  below-none (node l' s r) l v a e =
      bool_cases (eqb l l')
      (λ q. both_ways (rw q at e) a.1)
      (λ q. rw q (below-none r l v a.2 (rw q at e)))

  pub below-some : (t : Place) (l : ℕ) (v : Place) → is_end (sub l t) ≡ false → joined_below b ps t l v ≡ joined_place b ps (sub l t) v
  unfolding joined_below sub
  below-some end l v e = absurd (true≢false e)
  below-some (leaf x r) l v e = below-some r l v e
  below-some (node l' s r) l v e =
      bool_cases (eqb l l')
      (λ q. rw q (unfold joined_place in refl))
      (λ q. rw q (below-some r l v (rw q at e)))

-- ---- a property that both have

module _ (b : Background) (p : ℕ) (u : Place) where
  -- one that excludes p
  pub record Shared (t : Place) : Type 0 where
    pub name : ℕ
    pub first : found (find has name t) ≡ true
    pub second : found (find has name u) ≡ true
    pub against : b.excludes name p ≡ true

  found-head : (q m : ℕ) (r : Place) → found (find has q (leaf (atom has q m) r)) ≡ true
  found-head q m r = rw (find_head has q m r)

  found-rest : (q q' m : ℕ) (k : Kind) (r : Place) → found (find has q r) ≡ true → found (find has q (leaf (atom k q' m) r)) ≡ true
  unfolding find
  found-rest q q' m k r e = bool_cases (eqb (rank has) (rank k) && eqb q q') (λ z. rw z) (λ z. rw z e)

  pub implied-shared : (t : Place) → implied b p t u ≡ true → Shared t
  unfolding implied find
  implied-shared end e = absurd (false≢true e)
  implied-shared (leaf (atom k q m) r) e =
      or_cases (eqb (rank has) (rank k) && (found (find has q u) && b.excludes q p)) (implied b p r u) e
      (λ z.
      let i : has ≡ k = same_rank has k (and_left (eqb (rank has) (rank k)) (found (find has q u) && b.excludes q p) z) in
      let y = and_right (eqb (rank has) (rank k)) (found (find has q u) && b.excludes q p) z in
      record {
        name = q;
        first = rw (← i) (found-head q m r);
        second = and_left (found (find has q u)) (b.excludes q p) y;
        against = and_right (found (find has q u)) (b.excludes q p) y;
      })
      (λ z.
      let x = implied-shared r z in
      record { name = x.name; first = found-rest x.name q m k r x.first; second = x.second; against = x.against })
  implied-shared (node l s r) e =
      let x = implied-shared r e in record { name = x.name; first = x.first; second = x.second; against = x.against }

  pub shared-implied : (t : Place) → Shared t → implied b p t u ≡ true
  unfolding implied find
  shared-implied end x = absurd (false≢true x.first)
  shared-implied (leaf (atom k q m) r) x =
      bool_cases (eqb (rank has) (rank k) && eqb x.name q)
      (λ z.
      let i : x.name ≡ q = eqb-name (and_right (eqb (rank has) (rank k)) (eqb x.name q) z) in
      or_left (implied b p r u)
      (and_both (and_left (eqb (rank has) (rank k)) (eqb x.name q) z) (and_both (rw i at x.second) (rw i at x.against))))
      (λ z.
      or_right (eqb (rank has) (rank k) && (found (find has q u) && b.excludes q p))
      (shared-implied r (record { name = x.name; first = rw z at x.first; second = x.second; against = x.against })))
    where
      eqb-name : {m n : ℕ} → eqb m n ≡ true → m ≡ n
      eqb-name e = omega tests
  shared-implied (node l s r) x =
      shared-implied r (record { name = x.name; first = x.first; second = x.second; against = x.against })

-- ---- numbers

-- what the bounds of a link say, of one side, and of both
pub enough-zero : (m : ℕ) (o : Option ℕ) → enough m o ≡ leb m (or_zero o)
enough-zero m none = iff-eq (λ e. omega tests) (λ e. omega tests)
enough-zero m (some q) = refl

pub found-zero : (o : Option ℕ) → found o ≡ false → or_zero o ≡ 0
found-zero none e = refl
found-zero (some q) e = absurd (true≢false e)

pub value-enough : (m lo : ℕ) (hi : Option ℕ) → enough m (value least lo hi) ≡ leb m lo
value-enough m lo hi =
    bool_cases (eqb lo 0)
    (λ z. rw z (iff-eq (λ e. omega tests) (λ e. omega tests)))
    (λ z. rw z)

pub leb-min : (m x y : ℕ) → leb m (min x y) ≡ leb m x && leb m y
leb-min m x y =
    iff-eq (λ e. and_both {a = leb m x} {b = leb m y} (omega tests) (omega tests))
    (λ e. let p = and_left (leb m x) (leb m y) e in let q = and_right (leb m x) (leb m y) e in omega tests)

-- an upper bound of both
pub most-both : (m : ℕ) (x y : Option ℕ) (k : Bool) → (at_most m (larger x y) || k) ≡ (at_most m x || k) && (at_most m y || k)
most-both m none y true = sym (or-one (at_most m y))
  where
    or-one : (a : Bool) → (a || true) ≡ true
    or-one true = refl
    or-one false = refl
most-both m none y false = refl
most-both m (some x) none true = rw (or-one (leb x m))
  where
    or-one : (a : Bool) → (a || true) ≡ true
    or-one true = refl
    or-one false = refl
most-both m (some x) none false = sym (and-false (leb x m || false))
most-both m (some x) (some y) k =
    iff-eq
    (λ e. or_cases (leb (max x y) m) k e
    (λ z. and_both {a = leb x m || k} {b = leb y m || k} (or_left k (omega tests)) (or_left k (omega tests)))
    (λ z. and_both {a = leb x m || k} {b = leb y m || k} (or_right (leb x m) z) (or_right (leb y m) z)))
    (λ e. or_cases (leb x m) k (and_left (leb x m || k) (leb y m || k) e)
    (λ z. or_cases (leb y m) k (and_right (leb x m || k) (leb y m || k) e)
    (λ w. or_left k (omega tests))
    (λ w. or_right (leb (max x y) m) w))
    (λ z. or_right (leb (max x y) m) z))

pub found-none : (o : Option ℕ) → found o ≡ false → o ≡ none
found-none none e = refl
found-none (some q) e = absurd (true≢false e)
