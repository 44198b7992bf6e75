-- The places of the slots that stand in a table: what the comparison builds on. A place is a tree, `form`; its top is the normal form of the
-- description whose slots they are.
-- Assumes nothing.
use Rattle.std.specs.Prelude.{◌-◌, ◌/◌, ◌<◌, ◌≤◌, ℕ, eqb, get_or, length, Bool, cond, false, true, List, ◌≡◌}
use Rattle.std.proofs.Math.Option.{Option, none}
use Rattle.logic.specs.Normal.{find, sub}
use Rattle.logic.specs.Place.{Kind, Place}
use Rattle.passes.specs.code.Forms.{form}
use Rattle.passes.specs.code.Slots.{Slot, is_link, value}
use Rattle.slots.specs.code.States.{nowhere, slot_for}
use Rattle.slots.specs.code.Tables.{high_in, high_part, key_in, low_part, slots_in}

-- ---- the slots of a table, from number 1 to its end

abbrev pub used_in : List ℕ → ℕ
used_in t = length t - 1

abbrev pub all_slots : List ℕ → List Slot
all_slots t = slots_in t (used_in t)

-- the place of number v: the top is 0, and the place below a slot has the slot's number
abbrev pub place_in : List ℕ → ℕ → Place
place_in t v = form (all_slots t) v

-- the slot of a place, class and name; 0 where there is none
abbrev pub slot_by : List ℕ → ℕ → Bool → ℕ → ℕ
slot_by t v b n = slot_for (all_slots t) v b n

-- its bounds
unfoldable pub least_in : List ℕ → ℕ → ℕ
least_in t j = cond (eqb j 0) 0 (low_part (get_or t j 0))

unfoldable pub most_in : List ℕ → ℕ → Option ℕ
most_in t j = cond (eqb j 0) none (high_in (high_part (get_or t j 0)))

-- the place below it; nowhere, where there is no slot, or at most 0
unfoldable pub below_in : List ℕ → ℕ → ℕ
below_in t j = cond (eqb j 0) nowhere (cond (eqb (high_part (get_or t j 0)) 0) nowhere j)

-- The table holds the slots of a description, settled, no two of one key: each place lists what its slots say, and each link leads to the
-- place below its slot.
pub record Stood (t : List ℕ) : Type 0 where
  pub some' : 1 ≤ length t
  pub few : length t ≤ 1009
  pub apart : (i j : ℕ) → 1 ≤ i → i < j → j ≤ used_in t → eqb (key_in (get_or t i 0)) (key_in (get_or t j 0)) ≡ false
  pub lower : (j : ℕ) → 1 ≤ j → j ≤ used_in t → key_in (get_or t j 0) / 131072 < j
  pub lows : (j : ℕ) → j ≤ used_in t → least_in t j < 65536
  pub lists : (v : ℕ) (a : Kind) (n : ℕ) → find a n (place_in t v) ≡ value a (least_in t (slot_by t v (is_link a) n)) (most_in t (slot_by t v (is_link a) n))
  pub owns : (v l : ℕ) → sub l (place_in t v) ≡ place_in t (below_in t (slot_by t v true l))
