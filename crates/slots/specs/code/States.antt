-- Which entries hold, by the slots of a normal form. No public promise names these.
-- Assumes nothing.
use Rattle.std.specs.Prelude.{◌+◌, ◌*◌, ◌<◌, ◌≤◌, suc, zero, ℕ, eqb, leb, ltb, get_or, length, Bool, ◌||◌, cond, false, not, true, List, ◌≢◌, ◌≡◌}
use Rattle.std.proofs.Math.Option.{Option, none}
use Rattle.base.specs.Range.{bit}
use Rattle.blocks.specs.Entries.{entries_of, nth}
use Rattle.blocks.specs.Owners.{owner_of}
use Rattle.blocks.specs.declared.Entry.{Entry}
use Rattle.logic.specs.Background.{Background}
use Rattle.logic.specs.Normal.{at_most, found}
use Rattle.passes.specs.code.Restrict.{excluded_at}
use Rattle.passes.specs.code.Slots.{Slot, position, settled, slot_at, slot_high, slot_low, taken}
use Rattle.slots.specs.code.Tables.{Searchable, link_kind, no_bound, slots_from}

-- ---- slots by key

-- the number of the slot of place v, class b and name n; 0 if there is none
unfoldable pub slot_for : List Slot → ℕ → Bool → ℕ → ℕ
slot_for ss v b n = cond (taken ss v b n) (position 1 ss v b n) 0

-- its settled bounds; 0 and none where there is no slot
unfoldable pub low_at : List Slot → ℕ → ℕ
low_at ss j = cond (eqb j 0) 0 (slot_low (slot_at 1 (settled 1 ss) j))

unfoldable pub high_at : List Slot → ℕ → Option ℕ
high_at ss j = cond (eqb j 0) none (slot_high (slot_at 1 (settled 1 ss) j))

-- ---- where owners lead

-- Two states that are no place of N: `nowhere`, below which nothing stands, and `passed`, where all holds. No slot has either number.
abbrev pub nowhere : ℕ
nowhere = 1023

abbrev pub passed : ℕ
passed = 1024

-- The state of a place of D: the slot of N that it stands below, 0 for the top; nowhere, where N has no such place; or passed, where an
-- at most 0 was passed. The link l leads from state s to this one.
unfoldable pub state_below : List Slot → ℕ → ℕ → ℕ
state_below ss s l =
    cond (eqb s passed) passed
    (cond (eqb (slot_for ss s true l) 0) nowhere (cond (at_most 0 (high_at ss (slot_for ss s true l))) passed (slot_for ss s true l)))

-- the state of the place that entry o of D owns, the owners followed for at most so many steps
unfoldable pub state_of : List Slot → List Entry → ℕ → ℕ → ℕ
state_of ss d zero o = 0
state_of ss d (suc steps) o = cond (eqb o 0) 0 (state_below ss (state_of ss d steps (owner_of d o)) (nth d o).name)

-- ---- support

-- [C4] what supports an entry, kind by kind, by a slot's bounds: kind k, name l and number n. What the background
-- says counts too: an at most that a cap says, and the lack of a property that is excluded, which x tells.
unfoldable pub supported_by : Background → Bool → ℕ → ℕ → ℕ → ℕ → Option ℕ → Bool
supported_by b x k l n lo hi =
    cond (eqb k 1) (not (eqb lo 0))
    (cond (eqb k 2) (found hi || x) (cond (eqb k 3) (leb n lo) (cond (eqb k 4) (at_most n hi || at_most n (b.cap l)) (eqb k 5))))

-- the part of this that the slot's bounds decide, and the part that the background decides beside them
unfoldable pub bounds_support : ℕ → ℕ → ℕ → Option ℕ → Bool
bounds_support k n lo hi =
    cond (eqb k 1) (not (eqb lo 0)) (cond (eqb k 2) (found hi) (cond (eqb k 3) (leb n lo) (cond (eqb k 4) (at_most n hi) (eqb k 5))))

unfoldable pub beside_bounds : Background → Bool → ℕ → ℕ → ℕ → Bool
beside_bounds b x k l n = cond (eqb k 2) x (cond (eqb k 4) (at_most n (b.cap l)) false)

-- what a kind rests on, and what a slot's bounds give a number, as bits: the lower one is not 0, the upper one is there, as many, as few
unfoldable pub needed : ℕ → ℕ
needed k = cond (eqb k 1) 1 (cond (eqb k 2) 2 (cond (eqb k 3) 4 (cond (eqb k 4) 8 (cond (eqb k 5) 16 0))))

unfoldable pub given : ℕ → ℕ → ℕ → ℕ
given n lo hi = 1 * bit (leb 1 lo) + 2 * bit (ltb hi no_bound) + 4 * bit (leb n lo) + 8 * bit (leb hi n) + 16

-- the slot of an entry at place v
abbrev pub entry_slot : List Slot → ℕ → Entry → ℕ
entry_slot ss v e = slot_for ss v (link_kind e.kind) e.name

-- the entry holds in a place of that state
unfoldable pub holds_in_state : Background → List Slot → ℕ → Entry → Bool
holds_in_state b ss s e =
    cond (eqb s passed) true
    (supported_by b (excluded_at b ss s e.name) e.kind e.name e.number (low_at ss (entry_slot ss s e)) (high_at ss (entry_slot ss s e)))

-- entry n of D holds
unfoldable pub holds_by_slots : Background → List Slot → List Entry → ℕ → Bool
holds_by_slots b ss d n = holds_in_state b ss (state_of ss d (owner_of d n) (owner_of d n)) (nth d n)

-- ---- the tables

-- the settled slots ss stand in the table, on their chains
pub record Indexed (ss : List Slot) (t : List ℕ) (most : ℕ) (cells : List ℕ) (used : ℕ) : Type 0 where
  pub kept : Searchable t most cells used
  pub slotted : slots_from t 1 used ≡ settled 1 ss

-- the states of the top and of each 'every' among the first n entries are in a table that has room for all, and none that was put in is
-- above `passed`
pub record Stated (d : List ℕ) (t : List ℕ) (most : ℕ) (cells : List ℕ) (used n : ℕ) (states : List ℕ) : Type 0 where
  pub room : length (entries_of d) < length states
  pub small : (j : ℕ) → j ≤ n → get_or states j 0 ≤ passed
  pub right : (ss : List Slot) → Indexed ss t most cells used → (o : ℕ) → o ≤ n → (o ≢ 0 → (nth (entries_of d) o).kind ≡ 5) → get_or states o 0 ≡ state_of ss (entries_of d) o o
