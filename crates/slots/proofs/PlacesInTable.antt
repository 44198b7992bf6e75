-- The places of settled slots that stand in a table list what the slots say, and a link leads to the place below its slot.
-- Assumes nothing.
use Prim.Native.Nat.{◌/◌, ◌<◌, ◌≤◌, ℕ}
use lib.Dec.{eqb}
use lib.ListN.{get_or, length}
use mathlib.Core.Bool.{Bool, cond, false, false≢true, true}
use mathlib.Core.List.{List}
use mathlib.Core.Logic.{◌≢◌}
use mathlib.Core.Path.{◌∙◌, ◌≡◌, ap, sym}
use native.Mathlib.Omega.{arith}
use Rattle.base.proofs.Tests.{bool_cases, eq-cases, eq-eqb, eqb-eq, eqb-ne, ne_eqb, tests}
use Rattle.logic.specs.Background.{Background}
use Rattle.logic.specs.Normal.{at_most, find, sub}
use Rattle.logic.specs.Place.{Atom, Kind}
use Rattle.logic.specs.Tree.{Row, end}
use Rattle.passes.proofs.CellPlaces.FormSettled.{form-settled, position-settled, taken-settled}
use Rattle.passes.proofs.SlotLists.SlotLaws.{position_from}
use Rattle.passes.proofs.SlotLists.SlotNumbers.{no-link-slot, slot_owns}
use Rattle.passes.specs.code.Forms.{form}
use Rattle.passes.specs.code.Restrict.{slots_under}
use Rattle.passes.specs.code.Slots.{Slot, is_link, position, settled, slot_at, slot_high, slot_low, taken, value}
use Rattle.slots.proofs.HoldingLaws.{form-end, place-lists, place-owns, slot_small}
use Rattle.slots.proofs.PassLaws.{length-settled}
use Rattle.slots.proofs.TableSearch.{slots-many}
use Rattle.slots.proofs.states.BoundLaws.{high-none, high-some}
use Rattle.slots.proofs.states.SlotSearch.{slot-at}
use Rattle.slots.specs.code.States.{high_at, low_at, nowhere, slot_for}
use Rattle.slots.specs.code.TablePlaces.{Stood, all_slots, below_in, least_in, most_in, place_in, slot_by, used_in}
use Rattle.slots.specs.code.Tables.{high_in, high_part, key_in, low_part, slot_in}

low_small : (t : List ℕ) (j : ℕ) → (j ≢ 0 → low_part (get_or t j 0) < 65536) → least_in t j < 65536
unfolding least_in
low_small t j f = eq-cases j 0 (λ z. rw (eq-eqb z) (omega arith)) (λ z. rw (ne_eqb z) (f z))

-- the settled slots of a description's rows stand in the table, from number 1 to its end
module _ (b : Background) (rs : List (Row Atom ℕ)) (t : List ℕ) (some' : 1 ≤ length t) (few : length t ≤ 1009)
    (slotted : all_slots t ≡ settled 1 (slots_under b rs)) where
  abbrev ss : List Slot
  ss = slots_under b rs

  -- its slots are the description's
  slot_same : (v : ℕ) (c : Bool) (n : ℕ) → slot_by t v c n ≡ slot_for ss v c n
  unfolding slot_for
  slot_same v c n = rw (slotted, taken-settled 1 ss v c n, position-settled 1 ss v c n)

  slot-within : (v : ℕ) (c : Bool) (n : ℕ) → slot_for ss v c n ≤ used_in t
  slot-within v c n = rw (← (slot_same v c n)) (omega (arith, slot_small (all_slots t) v c n, slots-many t 1 (used_in t)))

  settled_at_lem : (j : ℕ) → 1 ≤ j → j ≤ used_in t → slot_at 1 (settled 1 ss) j ≡ slot_in (get_or t j 0)
  settled_at_lem j lo hi = rw (← slotted) (slot-at t 1 (used_in t) j lo (omega arith))

  -- and have its bounds
  low_same : (j : ℕ) → j ≤ used_in t → least_in t j ≡ low_at ss j
  unfolding least_in low_at slot_in
  low_same j h = eq-cases j 0 (λ z. rw (eq-eqb z)) (λ z. rw (ne_eqb z) (sym (ap slot_low (settled_at_lem j (omega arith) h))))

  high_same : (j : ℕ) → j ≤ used_in t → most_in t j ≡ high_at ss j
  unfolding most_in high_at slot_in
  high_same j h = eq-cases j 0 (λ z. rw (eq-eqb z)) (λ z. rw (ne_eqb z) (sym (ap slot_high (settled_at_lem j (omega arith) h))))

  -- its places are the description's
  place_same : (v : ℕ) → place_in t v ≡ form ss v
  place_same v = rw slotted (form-settled ss v)

  place-lists-in : (v : ℕ) (a : Kind) (n : ℕ) → find a n (place_in t v) ≡ value a (least_in t (slot_by t v (is_link a) n)) (most_in t (slot_by t v (is_link a) n))
  place-lists-in v a n =
      let h : slot_for ss v (is_link a) n ≤ used_in t = slot-within v (is_link a) n in
      rw (place_same v, slot_same v (is_link a) n, low_same (slot_for ss v (is_link a) n) h, high_same (slot_for ss v (is_link a) n) h) (place-lists b rs v a n)

  -- no place stands past the last slot
  nowhere-end : form ss nowhere ≡ end
  nowhere-end = form-end ss nowhere (omega (arith, ap length slotted, slots-many t 1 (used_in t), length-settled 1 ss))

  -- a link that has at most 0 owns nothing
  closed-end : (v l : ℕ) → at_most 0 (high_at ss (slot_for ss v true l)) ≡ true → sub l (form ss v) ≡ end
  unfolding slot_for high_at
  closed-end v l h =
      bool_cases (taken ss v true l)
      (λ q.
      let z : eqb (position 1 ss v true l) 0 ≡ false = omega (tests, position_from 1 ss v true l) in
      slot_owns b rs v l q ∙ rw (rw (q, z) at h))
      (λ q. no-link-slot b rs v l q)

  -- the place below a slot, by whether it has at most 0
  below-closed : (j : ℕ) → j ≤ used_in t → at_most 0 (high_at ss j) ≡ true → below_in t j ≡ nowhere
  unfolding below_in
  below-closed j h e =
      bool_cases (eqb j 0)
      (λ z. rw z)
      (λ z.
      bool_cases (eqb (high_part (get_or t j 0)) 0)
      (λ q. rw (z, q))
      (λ q.
      let is : most_in t j ≡ high_in (high_part (get_or t j 0)) = unfold most_in in rw z in
      absurd (false≢true (sym (high-some (high_part (get_or t j 0)) (eqb-ne q)) ∙ ap (at_most 0) (sym is ∙ high_same j h) ∙ e))))

  below-open : (j : ℕ) → j ≤ used_in t → at_most 0 (high_at ss j) ≡ false → below_in t j ≡ cond (eqb j 0) nowhere j
  unfolding below_in
  below-open j h e =
      bool_cases (eqb j 0)
      (λ z. rw z)
      (λ z.
      bool_cases (eqb (high_part (get_or t j 0)) 0)
      (λ q.
      let is : most_in t j ≡ high_in (high_part (get_or t j 0)) = unfold most_in in rw z in
      absurd (false≢true (sym e ∙ ap (at_most 0) (sym (high_same j h) ∙ is) ∙ high-none {h = high_part (get_or t j 0)} (eqb-eq q))))
      (λ q. rw (z, q)))

  -- a link leads to the place below its slot
  place-owns-in : (v l : ℕ) → sub l (place_in t v) ≡ place_in t (below_in t (slot_by t v true l))
  place-owns-in v l =
      let j : ℕ = slot_for ss v true l in
      let h : j ≤ used_in t = slot-within v true l in
      rw (place_same v, place_same (below_in t (slot_by t v true l)), slot_same v true l)
      (bool_cases (at_most 0 (high_at ss j))
      (λ q. closed-end v l q ∙ sym nowhere-end ∙ rw (below-closed j h q))
      (λ q. place-owns b rs (omega (arith, ap length slotted, slots-many t 1 (used_in t), length-settled 1 ss)) v l q ∙ rw (below-open j h q)))

  -- the table is one that the comparison can build on
  pub table-stood : ((i j : ℕ) → 1 ≤ i → i < j → j ≤ used_in t → eqb (key_in (get_or t i 0)) (key_in (get_or t j 0)) ≡ false)
      → ((j : ℕ) → 1 ≤ j → j ≤ used_in t → key_in (get_or t j 0) / 131072 < j) → ((j : ℕ) → 1 ≤ j → j ≤ used_in t → low_part (get_or t j 0) < 65536) → Stood t
  table-stood apart lower lows = record {
    some' = some';
    few = few;
    apart = apart;
    lower = lower;
    lows = λ j h. low_small t j (λ z. lows j (omega arith) h);
    lists = place-lists-in;
    owns = place-owns-in;
  }
