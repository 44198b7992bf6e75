-- What a search of the table of settled slots finds: the slot of a key, and its bounds.
-- Assumes nothing.
use Prim.Native.Nat.{◌+◌, ◌<◌, ◌≤◌, suc, zero, ℕ}
use lib.Dec.{eqb}
use lib.ListN.{get_or}
use mathlib.Core.Bool.{Bool, false}
use mathlib.Core.List.{List}
use mathlib.Core.Path.{◌∙◌, ◌≡◌, ap, sym}
use native.Mathlib.Omega.{arith}
use Rattle.base.proofs.Tests.{eq-cases, eqb-self, ne_eqb, tests}
use Rattle.base.specs.Chain.{last_where}
use Rattle.passes.proofs.CellPlaces.FormSettled.{position-settled, taken-settled}
use Rattle.passes.specs.code.Keys.{key_number}
use Rattle.passes.specs.code.Slots.{Slot, position, settled, slot_at, slot_high, slot_low, taken}
use Rattle.slots.proofs.TableSearch.{slot-last}
use Rattle.slots.specs.code.Tables.{keys_of}
use Rattle.slots.specs.code.States.{Indexed, high_at, low_at, slot_for}
use Rattle.slots.specs.code.Tables.{high_in, high_part, key_in, low_part, slot_in, slots_from}

-- ---- the slots of a table

-- each is that of its number
pub slot-at : (t : List ℕ) (i m j : ℕ) → i ≤ j → j < i + m → slot_at i (slots_from t i m) j ≡ slot_in (get_or t j 0)
unfolding slots_from slot_at
slot-at t i zero j lo hi = absurd (omega arith)
slot-at t i (suc m) j lo hi =
    eq-cases j i
    (λ q. rw (q, eqb-self i))
    (λ q. rw (ne_eqb q) (slot-at t (suc i) m j (omega arith) (omega arith)))

-- ---- the table of settled slots

module _ {ss : List Slot} {t cells : List ℕ} {most : ℕ} {used : ℕ} (I : Indexed ss t most cells used) where
  -- the search for a key finds its slot
  pub search-slot : (v : ℕ) (b : Bool) (n : ℕ) → n < 65536 → {s key : ℕ} → key ≡ key_number v b n → s ≡ last_where (λ j. key_in (get_or t j 0)) key used → s ≡ slot_for ss v b n
  unfolding slot_for
  search-slot v b n small {s} {key} k e =
      let there : taken (slots_from t 1 used) v b n ≡ taken ss v b n = rw I.slotted (taken-settled 1 ss v b n) in
      let at : position 1 (slots_from t 1 used) v b n ≡ position 1 ss v b n = rw I.slotted (position-settled 1 ss v b n) in
      e ∙ ap (λ (x : ℕ). last_where (keys_of t) x used) k ∙ sym (slot-last t used I.kept.apart v b n small) ∙ rw (there, at)

  -- the settled slot of a number is the one in the table
  settled_at_lem : (j : ℕ) → 1 ≤ j → j ≤ used → slot_at 1 (settled 1 ss) j ≡ slot_in (get_or t j 0)
  settled_at_lem j lo hi = rw (← I.slotted) (slot-at t 1 used j lo (omega arith))

  -- the bounds of a slot
  pub low-slot : (j : ℕ) → 1 ≤ j → j ≤ used → low_part (get_or t j 0) ≡ low_at ss j
  unfolding low_at slot_in
  low-slot j lo hi = let z : eqb j 0 ≡ false = omega tests in rw z (sym (ap slot_low (settled_at_lem j lo hi)))

  pub high-slot : (j : ℕ) → 1 ≤ j → j ≤ used → high_in (high_part (get_or t j 0)) ≡ high_at ss j
  unfolding high_at slot_in
  high-slot j lo hi = let z : eqb j 0 ≡ false = omega tests in rw z (sym (ap slot_high (settled_at_lem j lo hi)))
