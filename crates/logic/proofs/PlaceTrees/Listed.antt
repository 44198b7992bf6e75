-- Places that list no more than others: what those do not support or rule out, they do not.
-- Assumes nothing.
use Prim.Native.Nat.{ℕ}
use lib.Dec.{eqb}
use mathlib.Core.Bool.{Bool, ◌&&◌, false, not, true, true≢false}
use mathlib.Core.Logic.{◌⊎◌, ⊎_elim}
use mathlib.Core.Option.{Option, none, some}
use mathlib.Core.Path.{◌∙◌, ◌≡◌, ap, ap₂, refl, sym}
use Rattle.base.proofs.Missing.{and-never, not-true, opt_cases}
use Rattle.base.proofs.Tests.{and_both, and_left, and_right, bool_cases, both_ways, false_of_not, neither_left, neither_right, not-to-true, or-none}
use Rattle.logic.proofs.PlaceTrees.Lookup.{excluder, is-excluded, same_kind, same_name, same_rank}
use Rattle.logic.specs.Background.{Background, LawfulBackground}
use Rattle.logic.specs.Canonical.{telling}
use Rattle.logic.specs.Normal.{clash, excluded, find, found, over, same, under}
use Rattle.logic.specs.Place.{Atom, Kind, Place, atom, has, lacks, least, most, nothing}
use Rattle.logic.specs.Tree.{end, leaf}

-- what u lists, t or v lists
pub record FromEither (u t v : Place) : Type 0 where
  pub listed : (k : Kind) (n m : ℕ) → find k n u ≡ some m → (find k n t ≡ some m) ⊎ (find k n v ≡ some m)

module _ {u t v : Place} (f : FromEither u t v) where
  -- a test of look-ups that fails where nothing is listed
  pub look-either : (p : Option ℕ → Bool) → p none ≡ false → (k : Kind) (n : ℕ) → p (find k n t) ≡ false → p (find k n v) ≡ false
      → p (find k n u) ≡ false
  look-either p z k n e g =
      opt_cases (find k n u)
      (λ q. rw q z)
      (λ m q. rw q (⊎_elim (λ h. rw h at e) (λ h. rw h at g) (f.listed k n m q)))

  -- what neither place excludes, u does not exclude
  pub excluded-either : (b : Background) (p : ℕ) → excluded b p t ≡ false → excluded b p v ≡ false → excluded b p u ≡ false
  excluded-either b p e g =
      not-true (λ z.
      let x = excluder b p u z in
      ⊎_elim
      (λ h. both_ways (is-excluded b p t (record { name = x.name; number = x.number; listed = h; against = x.against })) e)
      (λ h. both_ways (is-excluded b p v (record { name = x.name; number = x.number; listed = h; against = x.against })) g)
      (f.listed has x.name x.number x.listed))

  -- what neither place rules out, u does not rule out
  pub clash-either : (b : Background) (a : Atom) → clash b t a ≡ false → clash b v a ≡ false → clash b u a ≡ false
  clash-either b (atom has p m) e g =
      or-none
      (look-either found refl lacks p
      (neither_left (found (find lacks p t)) (excluded b p t) e) (neither_left (found (find lacks p v)) (excluded b p v) g))
      (excluded-either b p
      (neither_right (found (find lacks p t)) (excluded b p t) e) (neither_right (found (find lacks p v)) (excluded b p v) g))
  clash-either b (atom lacks p m) e g = look-either found refl has p e g
  clash-either b (atom least l m) e g =
      or-none
      (look-either (under m) refl most l
      (neither_left (under m (find most l t)) (under m (b.cap l)) e) (neither_left (under m (find most l v)) (under m (b.cap l)) g))
      (neither_right (under m (find most l t)) (under m (b.cap l)) e)
  clash-either b (atom most l m) e g = look-either (over m) refl least l e g
  clash-either b (atom nothing n m) e g = e

-- a lack that tells something is not implied
pub not-implied : (b : Background) (t : Place) (k : Kind) (n m : ℕ) → telling b t (atom k n m) ≡ true → lacks ≡ k → excluded b n t ≡ false
not-implied b t k n m g i =
    let z : (eqb m 0 && not (excluded b n t)) ≡ true = ap (λ (a : Kind). telling b t (atom a n m)) i ∙ g in
    false_of_not (excluded b n t) (and_right (eqb m 0) (not (excluded b n t)) z)

-- what tells something in t does so in u, if v does not imply it
pub telling-either : {u t v : Place} → FromEither u t v → (b : Background) (k : Kind) (n m : ℕ) → telling b t (atom k n m) ≡ true
    → (lacks ≡ k → excluded b n v ≡ false) → telling b u (atom k n m) ≡ true
telling-either f b has n m g h = g
telling-either {t = t} f b lacks n m g h =
    and_both (and_left (eqb m 0) (not (excluded b n t)) g) (not-to-true (excluded-either f b n (not-implied b t lacks n m g refl) (h refl)))
telling-either f b least n m g h = g
telling-either f b most n m g h = g
telling-either f b nothing n m g h = g

-- ---- one atom

-- the place that lists one atom
abbrev pub only : Atom → Place
only a = leaf a end

-- a test of the look-up of the atom that is listed
pub look-only : (p : Option ℕ → Bool) → p none ≡ false → (k : Kind) (n : ℕ) (k' : Kind) (n' m' : ℕ)
    → (k ≡ k' → n ≡ n' → p (some m') ≡ false) → p (find k n (only (atom k' n' m'))) ≡ false
unfolding find
look-only p z k n k' n' m' f =
    bool_cases (same k n k' n')
    (λ q. rw q (f (same_kind k n k' n' q) (same_name k n k' n' q)))
    (λ q. rw q z)

-- a property that is not excluded by the atom that is listed
pub excluded-only : (b : Background) (p : ℕ) (k : Kind) (n m : ℕ) → (has ≡ k → b.excludes n p ≡ false)
    → excluded b p (only (atom k n m)) ≡ false
unfolding excluded
excluded-only b p k n m f =
    or-none (and-never (λ y z. both_ways z (f (same_rank has k y)))) refl

module _ {b : Background} (law : LawfulBackground b) (t : Place) where
  -- an atom does not rule itself out, if the place t does not
  pub only-itself : (k : Kind) (n m : ℕ) → clash b t (atom k n m) ≡ false → clash b (only (atom k n m)) (atom k n m) ≡ false
  unfolding find
  only-itself has n m e = excluded-only b n has n m (λ i. law.not_itself n)
  only-itself lacks n m e = refl
  only-itself least n m e = neither_right (under m (find most n t)) (under m (b.cap n)) e
  only-itself most n m e = refl
  only-itself nothing n m e = e

  -- the clash of one atom by two names
  clash-equivalent : {k k' : Kind} {n n' : ℕ} (m : ℕ) → k ≡ k' → n ≡ n' → clash b t (atom k' n' m) ≡ false → clash b t (atom k n m) ≡ false
  clash-equivalent m i j g = ap₂ (λ (x : Kind) (y : ℕ). clash b t (atom x y m)) i j ∙ g

  -- whether two atoms rule each other out does not turn on which is listed
  pub only-other : (k : Kind) (n m : ℕ) (k' : Kind) (n' m' : ℕ) → find k n t ≡ some m → clash b t (atom k n m) ≡ false
      → clash b t (atom k' n' m') ≡ false → clash b (only (atom k' n' m')) (atom k n m) ≡ false
  only-other has n m k' n' m' h e g =
      or-none
      (look-only found refl lacks n k' n' m' (λ i j.
      let z : clash b t (atom lacks n m') ≡ false = clash-equivalent m' i j g in both_ways (rw h) z))
      (excluded-only b n k' n' m' (λ i. not-true (λ y.
      let z : clash b t (atom has n' m') ≡ false = clash-equivalent m' i refl g in
      both_ways
      (is-excluded b n' t (record { name = n; number = m; listed = h; against = sym (law.both_ways n' n) ∙ y }))
      (neither_right (found (find lacks n' t)) (excluded b n' t) z))))
  only-other lacks n m k' n' m' h e g =
      look-only found refl has n k' n' m' (λ i j.
      let z : clash b t (atom has n m') ≡ false = clash-equivalent m' i j g in
      both_ways (rw h) (neither_left (found (find lacks n t)) (excluded b n t) z))
  only-other least n m k' n' m' h e g =
      or-none
      (look-only (under m) refl most n k' n' m' (λ i j.
      let z : clash b t (atom most n m') ≡ false = clash-equivalent m' i j g in rw h at z))
      (neither_right (under m (find most n t)) (under m (b.cap n)) e)
  only-other most n m k' n' m' h e g =
      look-only (over m) refl least n k' n' m' (λ i j.
      let z : clash b t (atom least n m') ≡ false = clash-equivalent m' i j g in
      rw h at (neither_left (under m' (find most n t)) (under m' (b.cap n)) z))
  only-other nothing n m k' n' m' h e g = absurd (true≢false e)
