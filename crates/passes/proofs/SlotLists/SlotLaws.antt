-- The slots of a description: each stands before the place below it, no two have one key, and there are no more than rows.
-- Assumes nothing.
use Prim.Native.Nat.{◌+◌, ◌<◌, ◌≤◌, suc, ℕ}
use lib.Dec.{eqb}
use lib.ListN.{length}
use mathlib.Core.Bool.{Bool, cond, false, false≢true, true, true≢false}
use mathlib.Core.List.{List, [], ◌∷◌}
use mathlib.Core.Option.{Option, none, some}
use mathlib.Core.Path.{◌∙◌, ◌≡◌, refl}
use native.Mathlib.Omega.{arith}
use Rattle.base.proofs.Missing.{opt_cases, some-none}
use Rattle.base.proofs.Tests.{and_left, and_right, bool_cases, eqb-eq, eqb-sym, neither_left, neither_right, or-none}
use Rattle.logic.specs.Place.{Atom, atom}
use Rattle.logic.specs.Tree.{Row, leaf_row, node_row}
use Rattle.passes.specs.code.Slots.{DistinctSlots, EarlySlots, Slot, at_top, build, high, is_link, leading, low, position, same_class, same_key, same_name, slot, slots, taken, tighten}

-- ---- keys

-- two tests, not both passed, may change places
pub exchange : {A : Type 0} (p q : Bool) (a b c : A) → (q ≡ true → p ≡ false) → cond p a (cond q b c) ≡ cond q b (cond p a c)
exchange true true a b c h = absurd (true≢false (h refl))
exchange true false a b c h = refl
exchange false q a b c h = refl

pub class-eq : (b b' : Bool) → same_class b b' ≡ true → b ≡ b'
class-eq true true e = refl
class-eq true false e = absurd (false≢true e)
class-eq false true e = absurd (false≢true e)
class-eq false false e = refl

pub class-self : (b : Bool) → same_class b b ≡ true
class-self true = refl
class-self false = refl

pub class-sym : (b b' : Bool) → same_class b b' ≡ same_class b' b
class-sym true true = refl
class-sym true false = refl
class-sym false true = refl
class-sym false false = refl

pub name-class : (b : Bool) (n : ℕ) (b' : Bool) (n' : ℕ) → same_name b n b' n' ≡ true → b ≡ b'
name-class b n b' n' e = class-eq b b' (and_left (same_class b b') (eqb n n') e)

pub name-eq : (b : Bool) (n : ℕ) (b' : Bool) (n' : ℕ) → same_name b n b' n' ≡ true → n ≡ n'
name-eq b n b' n' e = eqb-eq (and_right (same_class b b') (eqb n n') e)

pub key-place : (v : ℕ) (b : Bool) (n v' : ℕ) (b' : Bool) (n' : ℕ) → same_key v b n v' b' n' ≡ true → v ≡ v'
key-place v b n v' b' n' e = eqb-eq (and_left (eqb v v') (same_name b n b' n') e)

pub key-name : (v : ℕ) (b : Bool) (n v' : ℕ) (b' : Bool) (n' : ℕ) → same_key v b n v' b' n' ≡ true → same_name b n b' n' ≡ true
key-name v b n v' b' n' e = and_right (eqb v v') (same_name b n b' n') e

key-sym : (v : ℕ) (b : Bool) (n v' : ℕ) (b' : Bool) (n' : ℕ) → same_key v b n v' b' n' ≡ same_key v' b' n' v b n
key-sym v b n v' b' n' = rw (eqb-sym v v', class-sym b b', eqb-sym n n')

-- ---- one entry

module _ (u : ℕ) (b : Bool) (n lo : ℕ) (hi : Option ℕ) where
  -- at most one slot more
  pub tighten-longer : (ss : List Slot) → length ss ≤ length (tighten ss u b n lo hi)
  unfolding tighten
  tighten-longer [] = omega arith
  tighten-longer (slot u' b' n' lo' hi' ∷ ss) =
      bool_cases (same_key u' b' n' u b n) (λ q. rw q (omega arith)) (λ q. rw q (omega (arith, tighten-longer ss)))

  tighten-length : (ss : List Slot) → length (tighten ss u b n lo hi) ≤ suc (length ss)
  unfolding tighten
  tighten-length [] = omega arith
  tighten-length (slot u' b' n' lo' hi' ∷ ss) =
      bool_cases (same_key u' b' n' u b n) (λ q. rw q (omega arith)) (λ q. rw q (omega (arith, tighten-length ss)))

  pub tighten-early : (k : ℕ) (ss : List Slot) → EarlySlots k ss → u < k + length ss → EarlySlots k (tighten ss u b n lo hi)
  unfolding tighten
  tighten-early k [] e h = (omega arith, tt)
  tighten-early k (slot u' b' n' lo' hi' ∷ ss) e h =
      bool_cases (same_key u' b' n' u b n) (λ q. rw q e) (λ q. rw q (e.0, tighten-early (suc k) ss e.1 (omega arith)))

  taken-tighten : (ss : List Slot) (v : ℕ) (b' : Bool) (n' : ℕ) → taken ss v b' n' ≡ false → same_key u b n v b' n' ≡ false
      → taken (tighten ss u b n lo hi) v b' n' ≡ false
  unfolding taken tighten
  taken-tighten [] v b' n' e f = rw f
  taken-tighten (slot u₀ b₀ n₀ lo₀ hi₀ ∷ ss) v b' n' e f =
      bool_cases (same_key u₀ b₀ n₀ u b n)
      (λ q. rw q e)
      (λ q. rw q (or-none (neither_left (same_key u₀ b₀ n₀ v b' n') (taken ss v b' n') e)
      (taken-tighten ss v b' n' (neither_right (same_key u₀ b₀ n₀ v b' n') (taken ss v b' n') e) f)))

  tighten-distinct : (ss : List Slot) → DistinctSlots ss → DistinctSlots (tighten ss u b n lo hi)
  unfolding tighten taken
  tighten-distinct [] d = (refl, tt)
  tighten-distinct (slot u₀ b₀ n₀ lo₀ hi₀ ∷ ss) d =
      bool_cases (same_key u₀ b₀ n₀ u b n)
      (λ q. rw q d)
      (λ q. rw q (taken-tighten ss u₀ b₀ n₀ d.0 (key-sym u b n u₀ b₀ n₀ ∙ q), tighten-distinct ss d.1))

  -- the slot of an entry is there once it is tightened
  pub position-below : (k : ℕ) (ss : List Slot) → position k ss u b n < k + length (tighten ss u b n lo hi)
  unfolding tighten position
  position-below k [] = omega arith
  position-below k (slot u' b' n' lo' hi' ∷ ss) =
      bool_cases (same_key u' b' n' u b n) (λ q. rw q (omega arith)) (λ q. rw q (omega (arith, position-below (suc k) ss)))

pub position_from : (k : ℕ) (ss : List Slot) (u : ℕ) (b : Bool) (n : ℕ) → k ≤ position k ss u b n
unfolding position
position_from k [] u b n = omega arith
position_from k (slot u' b' n' lo' hi' ∷ ss) u b n =
    bool_cases (same_key u' b' n' u b n) (λ q. rw q (omega arith)) (λ q. rw q (omega (arith, position_from (suc k) ss u b n)))

-- ---- where owners lead

-- to the top, or to the place below a slot that is there
abbrev pub Bounded : (ℕ → Option ℕ) → List Slot → Type 0
Bounded ν ss = (j v : ℕ) → ν j ≡ some v → v < 1 + length ss

pub bounded-tighten : (ν : ℕ → Option ℕ) (ss : List Slot) (u : ℕ) (b : Bool) (n lo : ℕ) (hi : Option ℕ) → Bounded ν ss → Bounded ν (tighten ss u b n lo hi)
bounded-tighten ν ss u b n lo hi h j v e = let i : v < 1 + length ss = h j v e in omega (arith, tighten-longer u b n lo hi ss)

pub bounded-leading : (ν : ℕ → Option ℕ) (ss : List Slot) (k w : ℕ) → w < 1 + length ss → Bounded ν ss → Bounded (leading ν k w) ss
bounded-leading ν ss k w i h j v e =
    bool_cases (eqb k j)
    (λ q. let z : some w ≡ some v = rw q at e in let y : w ≡ v = cc in omega arith)
    (λ q. h j v (rw q at e))

pub bounded-top : Bounded at_top []
bounded-top j v e =
    bool_cases (eqb 0 j)
    (λ q. let z : some 0 ≡ some v = rw q at e in let y : 0 ≡ v = cc in omega arith)
    (λ q. let z : none ≡ some v = rw q at e in some-none z refl)

-- ---- all entries

build-early : (ν : ℕ → Option ℕ) (ss : List Slot) (k : ℕ) (rs : List (Row Atom ℕ)) → EarlySlots 1 ss → Bounded ν ss → EarlySlots 1 (build ν ss k rs)
unfolding build
build-early ν ss k [] e h = e
build-early ν ss k (leaf_row o (atom a n m) ∷ rs) e h =
    opt_cases (ν o)
    (λ q. rw q (build-early ν ss (suc k) rs e h))
    (λ u q. rw q (build-early ν (tighten ss u (is_link a) n (low a m) (high a m)) (suc k) rs
    (tighten-early u (is_link a) n (low a m) (high a m) 1 ss e (h o u q)) (bounded-tighten ν ss u (is_link a) n (low a m) (high a m) h)))
build-early ν ss k (node_row o l ∷ rs) e h =
    opt_cases (ν o)
    (λ q. rw q (build-early ν ss (suc k) rs e h))
    (λ u q. rw q (build-early (leading ν k (position 1 ss u true l)) (tighten ss u true l 0 none) (suc k) rs
    (tighten-early u true l 0 none 1 ss e (h o u q))
    (bounded-leading ν (tighten ss u true l 0 none) k (position 1 ss u true l) (position-below u true l 0 none 1 ss) (bounded-tighten ν ss u true l 0 none h))))

build-distinct : (ν : ℕ → Option ℕ) (ss : List Slot) (k : ℕ) (rs : List (Row Atom ℕ)) → DistinctSlots ss → DistinctSlots (build ν ss k rs)
unfolding build
build-distinct ν ss k [] d = d
build-distinct ν ss k (leaf_row o (atom a n m) ∷ rs) d =
    opt_cases (ν o)
    (λ q. rw q (build-distinct ν ss (suc k) rs d))
    (λ u q. rw q (build-distinct ν (tighten ss u (is_link a) n (low a m) (high a m)) (suc k) rs (tighten-distinct u (is_link a) n (low a m) (high a m) ss d)))
build-distinct ν ss k (node_row o l ∷ rs) d =
    opt_cases (ν o)
    (λ q. rw q (build-distinct ν ss (suc k) rs d))
    (λ u q. rw q (build-distinct (leading ν k (position 1 ss u true l)) (tighten ss u true l 0 none) (suc k) rs (tighten-distinct u true l 0 none ss d)))

build-length : (ν : ℕ → Option ℕ) (ss : List Slot) (k : ℕ) (rs : List (Row Atom ℕ)) → length (build ν ss k rs) ≤ length ss + length rs
unfolding build
build-length ν ss k [] = omega arith
build-length ν ss k (leaf_row o (atom a n m) ∷ rs) =
    opt_cases (ν o)
    (λ q. rw q (omega (arith, build-length ν ss (suc k) rs)))
    (λ u q. rw q (omega (arith, build-length ν (tighten ss u (is_link a) n (low a m) (high a m)) (suc k) rs, tighten-length u (is_link a) n (low a m) (high a m) ss)))
build-length ν ss k (node_row o l ∷ rs) =
    opt_cases (ν o)
    (λ q. rw q (omega (arith, build-length ν ss (suc k) rs)))
    (λ u q. rw q (omega (arith, build-length (leading ν k (position 1 ss u true l)) (tighten ss u true l 0 none) (suc k) rs, tighten-length u true l 0 none ss)))

-- a slot's place has a lower number than the slot
pub slots-early : (rs : List (Row Atom ℕ)) → EarlySlots 1 (slots rs)
unfolding slots
slots-early rs = build-early at_top [] 1 rs tt bounded-top

-- each place, class and name has one slot
pub slots-distinct : (rs : List (Row Atom ℕ)) → DistinctSlots (slots rs)
unfolding slots
slots-distinct rs = build-distinct at_top [] 1 rs tt

-- there are no more slots than rows
pub slots_length : (rs : List (Row Atom ℕ)) → length (slots rs) ≤ length rs
unfolding slots
slots_length rs = omega (arith, build-length at_top [] 1 rs)
