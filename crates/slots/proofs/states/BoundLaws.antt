-- The bounds of a slot that was looked up, and of none.
-- Assumes nothing.
use Prim.Native.Nat.{◌+◌, ◌*◌, ◌<◌, ◌≤◌, ℕ}
use lib.Dec.{eqb, leb, ltb}
use lib.ListN.{get_or, length}
use mathlib.Core.Bool.{Bool, ◌||◌, cond, false, not, or-false, true}
use Rattle.std.specs.Int.Bits.{bit_and}
use mathlib.Core.List.{List}
use mathlib.Core.Logic.{◌≢◌}
use mathlib.Core.Option.{Option}
use mathlib.Core.Path.{◌∙◌, ◌≡◌, ap, refl, sym}
use native.Mathlib.Omega.{arith}
use Rattle.base.proofs.WayLaws.{planted-same}
use Rattle.base.proofs.Tests.{eq-cases, eq-eqb, ge-ltb, gt-leb, le-leb, lt-cases, lt-ltb, ne_eqb, tests}
use Rattle.base.specs.Range.{bit}
use Rattle.blocks.specs.declared.Entry.{Entry}
use Rattle.logic.specs.Background.{standing}
use Rattle.logic.specs.Normal.{at_most, found}
use Rattle.pairs.specs.Pairs.{under}
use Rattle.passes.proofs.SlotLists.RestrictLaws.{excluded-settled}
use Rattle.passes.specs.code.Restrict.{excluded_at}
use Rattle.passes.specs.code.Slots.{Slot}
use Rattle.slots.proofs.states.SlotSearch.{high-slot, low-slot}
use Rattle.slots.specs.code.States.{Indexed, beside_bounds, bounds_support, entry_slot, high_at, given, holds_in_state, low_at, needed, nowhere, passed, slot_for, state_below, supported_by}
use Rattle.slots.specs.code.Tables.{Exact, Kept, Settling, high_in, high_part, key_in, link_kind, low_part, no_bound, slots_from}

module _ {ss : List Slot} {t cells : List ℕ} {most : ℕ} {used : ℕ} (i : Indexed ss t most cells used) {s x : ℕ} (b : s ≤ used) (e : x ≡ cond (eqb s 0) no_bound (get_or t s 0)) where
  pub bounds-low : low_part x ≡ low_at ss s
  unfolding low_part
  bounds-low =
      eq-cases s 0
      (λ z. rw (e, z) (unfold low_at in refl))
      (λ z. let f : x ≡ get_or t s 0 = e ∙ rw (ne_eqb z) in ap low_part f ∙ low-slot i s (omega arith) b)

  pub bounds-high : high_in (high_part x) ≡ high_at ss s
  unfolding high_part
  bounds-high =
      eq-cases s 0
      (λ z. rw (e, z) (unfold high_at in refl))
      (λ z. let f : x ≡ get_or t s 0 = e ∙ rw (ne_eqb z) in ap (λ (y : ℕ). high_in (high_part y)) f ∙ high-slot i s (omega arith) b)

-- an upper bound of 0, and another
pub high-none : {h : ℕ} → h ≡ 0 → at_most 0 (high_in h) ≡ true
high-none e = rw e

pub high-some : (h : ℕ) → h ≢ 0 → at_most 0 (high_in h) ≡ false
high-some h z = lt-cases h no_bound (λ l. rw (lt-ltb l) (omega tests)) (λ l. rw (ge-ltb l))

-- an upper bound is there, or is small enough
pub high-there : (h : ℕ) → ltb h no_bound ≡ found (high_in h)
high-there h = lt-cases h no_bound (λ l. rw (lt-ltb l)) (λ l. rw (ge-ltb l))

pub high-most : (h n : ℕ) → n < 65536 → leb h n ≡ at_most n (high_in h)
high-most h n b = lt-cases h no_bound (λ l. rw (lt-ltb l)) (λ l. rw (ge-ltb l, gt-leb {m = h} {n = n} (omega arith)))

-- ---- the settled table: its numbers, and its chains

pub settled-exact : {o origin t bad full : List ℕ} {used : ℕ} → Exact o origin used → Settling origin used 0 t bad full → Exact o t used
settled-exact x s =
    record {
      size = s.size ∙ x.size;
      high = λ j a b. omega (arith, s.highs j, x.high j a b);
      top = s.below 0 (omega arith) ∙ x.top;
      rest = λ j l. s.rest j l ∙ x.rest j l;
    }

-- a table of the same keys stands in the same cells
pub kept-keys : {origin t cells : List ℕ} {most : ℕ} {used : ℕ} → Kept origin most cells used → length t ≡ length origin
    → ((j : ℕ) → key_in (get_or t j 0) ≡ key_in (get_or origin j 0)) → Kept t most cells used
kept-keys k size keys =
    record {
      room = rw size k.room;
      wide = k.wide;
      narrow = k.narrow;
      small = k.small;
      keys = λ j lo hi. rw (keys j) (k.keys j lo hi);
      planted = planted-same (λ j lo hi. keys j) k.planted;
      apart = λ i j lo l hi. rw (keys i, keys j) (k.apart i j lo l hi);
    }

pub settled-kept : {origin t cells bad full : List ℕ} {most : ℕ} {used : ℕ} → Kept origin most cells used → Settling origin used 0 t bad full → Kept t most cells used
settled-kept k s = kept-keys k s.size s.keys

-- ---- what the bounds support

one-bound : (lo : ℕ) → leb 1 lo ≡ not (eqb lo 0)
one-bound lo = eq-cases lo 0 (λ z. rw z) (λ z. rw (ne_eqb z) (le-leb {m = 1} {n = lo} (omega arith)))

-- a bit alone asks for its own comparison, whichever hold
each : (a b c d : Bool) → let m : ℕ = 1 * bit a + 2 * bit b + 4 * bit c + 8 * bit d + 16 in
    (not (eqb (bit_and 1 m) 0) ≡ a) × (not (eqb (bit_and 2 m) 0) ≡ b) × (not (eqb (bit_and 4 m) 0) ≡ c) × (not (eqb (bit_and 8 m) 0) ≡ d)
    × (not (eqb (bit_and 16 m) 0) ≡ true) × (not (eqb (bit_and 0 m) 0) ≡ false)
each true true true true = (refl, refl, refl, refl, refl, refl)
each true true true false = (refl, refl, refl, refl, refl, refl)
each true true false true = (refl, refl, refl, refl, refl, refl)
each true true false false = (refl, refl, refl, refl, refl, refl)
each true false true true = (refl, refl, refl, refl, refl, refl)
each true false true false = (refl, refl, refl, refl, refl, refl)
each true false false true = (refl, refl, refl, refl, refl, refl)
each true false false false = (refl, refl, refl, refl, refl, refl)
each false true true true = (refl, refl, refl, refl, refl, refl)
each false true true false = (refl, refl, refl, refl, refl, refl)
each false true false true = (refl, refl, refl, refl, refl, refl)
each false true false false = (refl, refl, refl, refl, refl, refl)
each false false true true = (refl, refl, refl, refl, refl, refl)
each false false true false = (refl, refl, refl, refl, refl, refl)
each false false false true = (refl, refl, refl, refl, refl, refl)
each false false false false = (refl, refl, refl, refl, refl, refl)

-- what a kind rests on is among what the bounds give exactly where they support the entry
pub given_support : (k n lo hi : ℕ) → n < 65536 → not (eqb (bit_and (needed k) (given n lo hi)) 0) ≡ bounds_support k n lo (high_in hi)
unfolding needed given bounds_support
given_support k n lo hi small =
    let e = each (leb 1 lo) (ltb hi no_bound) (leb n lo) (leb hi n) in
    eq-cases k 1 (λ q. rw q (e.0 ∙ one-bound lo))
    (λ a. eq-cases k 2 (λ q. rw q (e.1 ∙ high-there hi))
    (λ b. eq-cases k 3 (λ q. rw q e.2)
    (λ c. eq-cases k 4 (λ q. rw q (e.3 ∙ high-most hi n small))
    (λ d. eq-cases k 5 (λ q. rw q e.4)
    (λ f. rw (ne_eqb a, ne_eqb b, ne_eqb c, ne_eqb d, ne_eqb f) e.5)))))

-- ---- a lack that is implied

-- settled slots exclude what the slots do, so that what the bounds do not support is decided beside them by the table
pub beside-supported : (P : List ℕ) {ss : List Slot} {t cells : List ℕ} {most : ℕ} {used : ℕ} → Indexed ss t most cells used → (e : Entry) (s lo : ℕ) (hi : Option ℕ)
    → supported_by (under P) (excluded_at (under P) ss s e.name) e.kind e.name e.number lo hi
    ≡ bounds_support e.kind e.number lo hi || beside_bounds standing (excluded_at (under P) (slots_from t 1 used) s e.name) e.kind e.name e.number
unfolding supported_by bounds_support beside_bounds
beside-supported P {ss} {t = t} {used = used} i e s lo hi =
    let same : excluded_at (under P) (slots_from t 1 used) s e.name ≡ excluded_at (under P) ss s e.name = rw i.slotted (excluded-settled (under P) 1 ss s e.name) in
    eq-cases e.kind 1 (λ q. rw q (sym (or-false _)))
    (λ a. eq-cases e.kind 2 (λ q. rw (q, same))
    (λ b. eq-cases e.kind 3 (λ q. rw q (sym (or-false _)))
    (λ c. eq-cases e.kind 4 (λ q. rw q)
    (λ d. rw (ne_eqb a, ne_eqb b, ne_eqb c, ne_eqb d) (sym (or-false _))))))

-- ---- an entry that was looked up in a place that is not passed

module _ {ss : List Slot} {t cells : List ℕ} {most : ℕ} {used : ℕ} (i : Indexed ss t most cells used) {s x : ℕ} (b : s ≤ used) (is' : x ≡ cond (eqb s 0) no_bound (get_or t s 0)) {v : ℕ} (z : v ≢ passed) (e : Entry)
    (found' : s ≡ entry_slot ss v e) where
  -- it holds by the bounds that were found, or beside them
  pub looked-holds : (P : List ℕ) → holds_in_state (under P) ss v e
      ≡ bounds_support e.kind e.number (low_part x) (high_in (high_part x)) || beside_bounds standing (excluded_at (under P) (slots_from t 1 used) v e.name) e.kind e.name e.number
  unfolding holds_in_state
  looked-holds P = rw (holds_in_state, ne_eqb z, ← found', ← bounds-low i b is', ← bounds-high i b is') (beside-supported P i e v _ _)

  -- and the state below it, if it is an 'every', is by its slot
  pub looked-below : e.kind ≡ 5 → {y : ℕ} → y ≡ cond (eqb s 0) nowhere (cond (eqb (high_part x) 0) passed s) → y ≡ state_below ss v e.name
  unfolding state_below link_kind
  looked-below k y =
      let link : link_kind e.kind ≡ true = rw (link_kind, k) in
      let there : s ≡ slot_for ss v true e.name = found' ∙ ap (λ (q : Bool). slot_for ss v q e.name) link in
      let none' : at_most 0 (high_at ss s) ≡ eqb (high_part x) 0 = ap (at_most 0) (sym (bounds-high i b is')) ∙ eq-cases (high_part x) 0 (λ q. high-none q ∙ sym (eq-eqb q)) (λ q. high-some _ q ∙ sym (ne_eqb q)) in
      y ∙ rw (state_below, ne_eqb z, ← there, none')
