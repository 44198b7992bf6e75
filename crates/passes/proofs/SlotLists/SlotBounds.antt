-- What the bounds of a slot ask of an item.
-- Assumes nothing.
use Prim.Native.Nat.{◌<◌, max, min, ℕ}
use lib.Dec.{eqb, leb}
use mathlib.Core.Bool.{Bool, ◌&&◌, ◌||◌, and-true, false, not, or-and_distrib_left, or-true, true}
use mathlib.Core.Option.{Option, none, some}
use mathlib.Core.Path.{◌∙◌, ◌≡◌, ap, fun_ext, refl, sym}
use Rattle.base.proofs.Tests.{and_both, and_left, and_right, bool_cases, iff-eq, or_right, tests}
use Rattle.logic.proofs.Records.Counting.{every-and, every-ext, every_of}
use Rattle.logic.specs.Normal.{found}
use Rattle.logic.specs.Place.{Kind, atom, has, lacks, least, most, nothing}
use Rattle.logic.specs.Record.{Record, each_linked, meets, successors}
use Rattle.passes.specs.code.Slots.{high, is_link, low, smaller}

-- a count is within an upper bound, if there is one
abbrev pub capped : Option ℕ → ℕ → Bool
capped none t = true
capped (some h) t = leb t h

-- the item x is within the bounds of a class and name
abbrev pub inside : Record → Bool → ℕ → ℕ → Option ℕ → ℕ → Bool
inside c true n lo hi x = leb lo (successors c n x) && capped hi (successors c n x)
inside c false n lo hi x = (eqb lo 0 || c.property n x) && (not (found hi) || not (c.property n x))

-- each item that x is linked to passes; nothing is asked of a property
abbrev pub each_below : Record → Bool → ℕ → ℕ → (ℕ → Bool) → Bool
each_below c true n x q = each_linked c n x q
each_below c false n x q = true

-- ---- two bounds together

max-leb : (a b t : ℕ) → leb (max a b) t ≡ leb a t && leb b t
max-leb a b t =
    iff-eq (λ h. and_both {a = leb a t} {b = leb b t} (omega tests) (omega tests))
    (λ h. let p : leb a t ≡ true = and_left (leb a t) (leb b t) h in let q : leb b t ≡ true = and_right (leb a t) (leb b t) h in omega tests)

leb-min : (a b t : ℕ) → leb t (min a b) ≡ leb t a && leb t b
leb-min a b t =
    iff-eq (λ h. and_both {a = leb t a} {b = leb t b} (omega tests) (omega tests))
    (λ h. let p : leb t a ≡ true = and_left (leb t a) (leb t b) h in let q : leb t b ≡ true = and_right (leb t a) (leb t b) h in omega tests)

max-zero : (a b : ℕ) → eqb (max a b) 0 ≡ eqb a 0 && eqb b 0
max-zero a b =
    iff-eq (λ h. and_both {a = eqb a 0} {b = eqb b 0} (omega tests) (omega tests))
    (λ h. let p : eqb a 0 ≡ true = and_left (eqb a 0) (eqb b 0) h in let q : eqb b 0 ≡ true = and_right (eqb a 0) (eqb b 0) h in omega tests)

capped-both : (o o' : Option ℕ) (t : ℕ) → capped (smaller o o') t ≡ capped o t && capped o' t
capped-both none o' t = refl
capped-both (some h) none t = sym (and-true (leb t h))
capped-both (some h) (some h') t = leb-min h h' t

found-both : (o o' : Option ℕ) → found (smaller o o') ≡ found o || found o'
found-both none o' = refl
found-both (some h) none = refl
found-both (some h) (some h') = refl

and-four : (a b c d : Bool) → ((a && b) && (c && d)) ≡ ((a && c) && (b && d))
and-four true true c d = refl
and-four true false true d = refl
and-four true false false d = refl
and-four false b c d = refl

property-both : (a a' f f' p : Bool)
    → (((a && a') || p) && (not (f || f') || not p)) ≡ (((a || p) && (not f || not p)) && ((a' || p) && (not f' || not p)))
property-both true true true f' p = bool_cases p (λ q. rw q) (λ q. rw q (sym (or-true (not f'))))
property-both true true false f' p = bool_cases p (λ q. rw q) (λ q. rw q)
property-both true false true f' p = bool_cases p (λ q. rw q) (λ q. rw q)
property-both true false false f' p = bool_cases p (λ q. rw q) (λ q. rw q)
property-both false a' true f' p = bool_cases p (λ q. rw q) (λ q. rw q)
property-both false true false f' p = bool_cases p (λ q. rw q) (λ q. rw q)
property-both false false false f' p = bool_cases p (λ q. rw q) (λ q. rw q)

module _ (c : Record) where
  -- the tighter of two bounds each asks what both ask
  pub inside_both : (b : Bool) (n lo lo' : ℕ) (hi hi' : Option ℕ) (x : ℕ)
      → inside c b n (max lo lo') (smaller hi hi') x ≡ inside c b n lo hi x && inside c b n lo' hi' x
  inside_both true n lo lo' hi hi' x =
      let s : ℕ = successors c n x in
      rw (max-leb lo lo' s, capped-both hi hi' s) (and-four (leb lo s) (leb lo' s) (capped hi s) (capped hi' s))
  inside_both false n lo lo' hi hi' x =
      rw (max-zero lo lo', found-both hi hi') (property-both (eqb lo 0) (eqb lo' 0) (found hi) (found hi') (c.property n x))

  -- the bounds of an atom ask what the atom asks
  pub inside-atom : (a : Kind) (n m x : ℕ) → inside c (is_link a) n (low a m) (high a m) x ≡ meets c (atom a n m) x
  inside-atom has n m x = and-true (c.property n x)
  inside-atom lacks n m x = refl
  inside-atom least n m x = and-true (leb m (successors c n x))
  inside-atom most n m x = let z : leb 0 (successors c n x) ≡ true = omega tests in rw z
  inside-atom nothing n m x = bool_cases (c.property n x) (λ q. rw q) (λ q. rw q)

  -- no bounds ask nothing
  pub inside-free : (b : Bool) (n x : ℕ) → inside c b n 0 none x ≡ true
  inside-free true n x = let z : leb 0 (successors c n x) ≡ true = omega tests in rw z
  inside-free false n x = refl

  -- ---- items below

  pub below-ext : (b : Bool) (n x : ℕ) (p q : ℕ → Bool) → ((y : ℕ) → p y ≡ q y) → each_below c b n x p ≡ each_below c b n x q
  below-ext b n x p q h = ap (λ (r : ℕ → Bool). each_below c b n x r) (fun_ext h)

  -- the items of the record alone matter
  pub below-agree : (b : Bool) (n x : ℕ) (p q : ℕ → Bool) → ((y : ℕ) → y < c.size → p y ≡ q y)
      → each_below c b n x p ≡ each_below c b n x q
  below-agree true n x p q h = every-ext _ _ c.size (λ y i. ap (λ (z : Bool). not (c.link n x y) || z) (h y i))
  below-agree false n x p q h = refl

  pub below_true : (b : Bool) (n x : ℕ) (p : ℕ → Bool) → ((y : ℕ) → p y ≡ true) → each_below c b n x p ≡ true
  below_true true n x p h = every_of _ _ (λ y _. or_right (not (c.link n x y)) (h y))
  below_true false n x p h = refl

  pub linked-and : (l x : ℕ) (p q : ℕ → Bool) → each_linked c l x (λ y. p y && q y) ≡ each_linked c l x p && each_linked c l x q
  linked-and l x p q =
      every-ext _ _ c.size (λ y h. or-and_distrib_left (not (c.link l x y)) (p y) (q y))
      ∙ every-and (λ y. not (c.link l x y) || p y) (λ y. not (c.link l x y) || q y) c.size
