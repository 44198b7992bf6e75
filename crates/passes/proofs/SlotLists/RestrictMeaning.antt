-- Slots under a background ask what they asked, of the items of the records that keep it.
-- Assumes nothing.
use Prim.Native.Nat.{◌<◌, ◌≤◌, suc, ℕ}
use lib.Dec.{eqb, leb}
use mathlib.Core.Bool.{Bool, ◌&&◌, ◌||◌, and-true, false, false≢true, not, true}
use mathlib.Core.List.{List, [], ◌∷◌}
use mathlib.Core.Option.{Option, none, some}
use mathlib.Core.Path.{◌∙◌, ◌≡◌, refl, sym}
use native.Mathlib.Omega.{arith}
use Rattle.base.proofs.Tests.{and_left, and_right, bool_cases, eqb-eq, iff-eq, or_cases, or_right, tests}
use Rattle.logic.specs.Background.{Background, Keeps}
use Rattle.logic.specs.Normal.{found, under}
use Rattle.logic.specs.Record.{Record, successors}
use Rattle.passes.proofs.SlotLists.SlotBounds.{below-agree, capped, each_below, inside}
use Rattle.passes.proofs.SlotLists.SlotMeaning.{asks}
use Rattle.passes.specs.code.Restrict.{excluded_at, idle, restrict, restrict_by, restricted_high}
use Rattle.passes.specs.code.Slots.{EarlySlots, Slot, slot}

-- nothing more is asked
abbrev free : ℕ → ℕ → Bool
free v x = true

-- what a slot that asks for a property asks of an item at its place
has-asked : (a l p f r : Bool) → ((not a || (((l || p) && f) && true)) && r) ≡ true → (not (a && not l) || p) ≡ true
has-asked true true p f r h = refl
has-asked true false true f r h = refl
has-asked true false false f r h = absurd (false≢true h)
has-asked false l p f r h = refl

-- a count above the cap
over-cap : (o : Option ℕ) (lo s : ℕ) → ((m : ℕ) → o ≡ some m → s ≤ m) → under lo o ≡ true → leb lo s ≡ false
over-cap none lo s f e = absurd (false≢true e)
over-cap (some m) lo s f e = omega (tests, f m refl)

-- a bound that the cap says
within_cap : (o hi : Option ℕ) (s : ℕ) → ((m : ℕ) → o ≡ some m → s ≤ m) → idle o hi ≡ true → capped hi s ≡ true
within_cap o none s f e = refl
within_cap none (some h) s f e = absurd (false≢true e)
within_cap (some m) (some h) s f e = omega (tests, f m refl)

module _ (c : Record) where
  -- ---- the properties that a place asks for

  -- the item has each property that the slots of place v ask for
  unfoldable demands : List Slot → ℕ → ℕ → Bool
  demands [] v x = true
  demands (slot u d n lo hi ∷ ss) v x = (not (eqb v u && (not d && not (eqb lo 0))) || c.property n x) && demands ss v x

  -- an item that meets the slots of a place has them
  asks-demands : (k : ℕ) (ss : List Slot) (v x : ℕ) → asks c k ss free v x ≡ true → demands ss v x ≡ true
  unfolding asks demands
  asks-demands k [] v x h = refl
  asks-demands k (slot u true n lo hi ∷ ss) v x h =
      let here : Bool = not (eqb v u) || (inside c true n lo hi x && each_below c true n x (λ y. asks c (suc k) ss free k y)) in
      rw (asks-demands (suc k) ss v x (and_right here (asks c (suc k) ss free v x) h))
      (bool_cases (eqb v u) (λ q. rw q) (λ q. rw q))
  asks-demands k (slot u false n lo hi ∷ ss) v x h =
      let here : Bool = not (eqb v u) || (inside c false n lo hi x && true) in
      rw (asks-demands (suc k) ss v x (and_right here (asks c (suc k) ss free v x) h))
      (and-true _
      ∙ has-asked (eqb v u) (eqb lo 0) (c.property n x) (not (found hi) || not (c.property n x)) (asks c (suc k) ss free v x) h)

  -- slots under a background ask for the same properties
  demands-restricted : (b : Background) (e : ℕ → ℕ → Bool) (ss : List Slot) (v x : ℕ)
      → demands (restrict_by b e ss) v x ≡ demands ss v x
  unfolding demands restrict_by
  demands-restricted b e [] v x = refl
  demands-restricted b e (slot u d n lo hi ∷ ss) v x = rw (demands-restricted b e ss v x)

  module _ {b : Background} (kept : Keeps b c) where
    -- an item that has what a place asks for has no property that is excluded there
    excluded-none : (ss : List Slot) (v p x : ℕ) → x < c.size → excluded_at b ss v p ≡ true → demands ss v x ≡ true
        → c.property p x ≡ false
    unfolding excluded_at demands
    excluded-none [] v p x i e h = absurd (false≢true e)
    excluded-none (slot u d n lo hi ∷ ss) v p x i e h =
        let told : Bool = not (eqb lo 0) && b.excludes n p in
        let asked : Bool = not (eqb v u && (not d && not (eqb lo 0))) || c.property n x in
        or_cases (eqb v u && (not d && told)) (excluded_at b ss v p) e
        (λ q.
        let q1 : eqb v u ≡ true = and_left (eqb v u) (not d && told) q in
        let q2 : (not d && told) ≡ true = and_right (eqb v u) (not d && told) q in
        let q3 : not d ≡ true = and_left (not d) told q2 in
        let q4 : told ≡ true = and_right (not d) told q2 in
        let q5 : not (eqb lo 0) ≡ true = and_left (not (eqb lo 0)) (b.excludes n p) q4 in
        let g : c.property n x ≡ true = rw (q1, q3, q5) at (and_left asked (demands ss v x) h) in
        rw g at (kept.exclusions n p x (and_right (not (eqb lo 0)) (b.excludes n p) q4) i))
        (λ q. excluded-none ss v p x i q (and_right asked (demands ss v x) h))

    -- ---- one slot

    -- a slot asks what it asked
    slot_same : (d e : Bool) (n lo : ℕ) (hi : Option ℕ) (x : ℕ) → x < c.size → (e ≡ true → c.property n x ≡ false)
        → inside c d n lo (restricted_high b d e n lo hi) x ≡ inside c d n lo hi x
    slot_same true e n lo hi x i f =
        let s : ℕ = successors c n x in
        let k : (m : ℕ) → b.cap n ≡ some m → s ≤ m = λ m q. kept.caps n m x q i in
        bool_cases (under lo (b.cap n))
        (λ q. rw (q, over-cap (b.cap n) lo s k q))
        (λ q. bool_cases (idle (b.cap n) hi)
        (λ r. rw (q, r, within_cap (b.cap n) hi s k r))
        (λ r. rw (q, r)))
    slot_same false true n lo hi x i f =
        let z : c.property n x ≡ false = f refl in
        bool_cases (eqb lo 0)
        (λ q. rw (q, z) (sym (or_right (not (found hi)) refl)))
        (λ q. rw (q, z))
    slot_same false false n lo hi x i f = refl

    -- ---- all slots

    module _ (W : List Slot) where
      -- Where the item has what the place asks for, the slots from number k on ask what they asked: all slots of the places from
      -- k on are among them.
      asks-same : (k : ℕ) (ss : List Slot) → EarlySlots k ss → ((v : ℕ) → k ≤ v → (y : ℕ) → demands W v y ≡ demands ss v y)
          → (v x : ℕ) → x < c.size → demands W v x ≡ true
          → asks c k (restrict_by b (excluded_at b W) ss) free v x ≡ asks c k ss free v x
      unfolding asks restrict_by demands
      asks-same k [] e g v x i h = refl
      asks-same k (slot u d n lo hi ∷ ss) e g v x i h =
          let ss' : List Slot = restrict_by b (excluded_at b W) ss in
          let later : (v : ℕ) → k ≤ v → (y : ℕ) → demands W v y ≡ demands ss v y
          = λ w l y. let z : eqb w u ≡ false = omega (tests, e.0) in g w l y ∙ rw z in
          let ih : (v x : ℕ) → x < c.size → demands W v x ≡ true → asks c (suc k) ss' free v x ≡ asks c (suc k) ss free v x
          = asks-same (suc k) ss e.1 (λ w l y. later w (omega arith) y) in
          let below : (y : ℕ) → y < c.size → asks c (suc k) ss' free k y ≡ asks c (suc k) ss free k y
          = λ y j. iff-eq
          (λ p.
          let has : demands ss k y ≡ true = sym (demands-restricted b (excluded_at b W) ss k y) ∙ asks-demands (suc k) ss' k y p in
          sym (ih k y j (later k (omega arith) y ∙ has)) ∙ p)
          (λ p. ih k y j (later k (omega arith) y ∙ asks-demands (suc k) ss k y p) ∙ p) in
          let each : each_below c d n x (λ y. asks c (suc k) ss' free k y) ≡ each_below c d n x (λ y. asks c (suc k) ss free k y)
          = below-agree c d n x _ _ below in
          bool_cases (eqb v u)
          (λ q.
          let iv : v ≡ u = eqb-eq q in
          let here : inside c d n lo (restricted_high b d (excluded_at b W u n) n lo hi) x ≡ inside c d n lo hi x
          = slot_same d (excluded_at b W u n) n lo hi x i (λ z. excluded-none W u n x i z (rw iv at h)) in
          rw (q, here, each, ih v x i h))
          (λ q. rw (q, ih v x i h))

    -- slots under a background ask what they asked
    pub restrict-asks : (ss : List Slot) → EarlySlots 1 ss → (v x : ℕ) → x < c.size
        → asks c 1 (restrict b ss) (λ v x. true) v x ≡ asks c 1 ss (λ v x. true) v x
    unfolding restrict
    restrict-asks ss e v x i =
        iff-eq
        (λ p.
        let has : demands ss v x ≡ true
        = sym (demands-restricted b (excluded_at b ss) ss v x) ∙ asks-demands 1 (restrict b ss) v x p in
        sym (asks-same ss 1 ss e (λ w l y. refl) v x i has) ∙ p)
        (λ p. asks-same ss 1 ss e (λ w l y. refl) v x i (asks-demands 1 ss v x p) ∙ p)
