-- The looks of a comparison, counted: the cells to which a search for a slot comes, the numbers to which a walk along the
-- list of pairs comes, and the sums over the entries. They mirror the loops of `cell_for` and of `excluded_beside`.
-- Assumes nothing.
use Rattle.std.specs.Prelude.{ℕ, zero, suc, ◌+◌, ◌%◌, eqb, ltb, ◌||◌, cond, List, get_or}
use Rattle.base.specs.Range.{bit}
use Rattle.base.specs.Ways.{Way, by_quotient, cell_after}
use Rattle.blocks.specs.Entries.{nth}
use Rattle.blocks.specs.Owners.{owner_of}
use Rattle.blocks.specs.declared.Entry.{Entry}
use Rattle.pairs.specs.code.Index.{bucket_of}
use Rattle.passes.specs.code.Keys.{key_number}
use Rattle.passes.specs.code.Slots.{Slot}
use Rattle.slots.specs.code.Marking.{marked_slot}
use Rattle.slots.specs.code.States.{passed, state_of}
use Rattle.slots.specs.code.Tables.{key_in, keys_of, link_kind}

-- ---- one search, one walk

-- The cells that a search for x looks at, from the one to which it has come after some turns, where at most `left` turns
-- follow: it ends at a free cell, and at a number with its key.
unfoldable pub looks_after : (ℕ → ℕ) → List ℕ → Way → ℕ → ℕ → ℕ → ℕ
looks_after key t w x zero turn = 1
looks_after key t w x (suc left) turn =
    cond (eqb (get_or t (cell_after t w x turn) 0) 0 || eqb (key (get_or t (cell_after t w x turn) 0)) x) 1
    (1 + looks_after key t w x left (suc turn))

-- all that a search for the slot of a key looks at; the route of a key has 23 bits
unfoldable pub slot_looks : List ℕ → ℕ → List ℕ → ℕ → ℕ
slot_looks t most cells x = looks_after (keys_of t) cells (by_quotient most) x 23 0

-- the numbers to which a walk comes from number k on, for at most so many steps
unfoldable pub steps_from : (ℕ → ℕ) → ℕ → ℕ → ℕ
steps_from next zero k = 0
steps_from next (suc more) k = cond (eqb k 0) 0 (1 + steps_from next more (next k))

-- all to which a walk along the chain of a property comes that goes to its end, in the index of a list
unfoldable pub list_steps : List ℕ → ℕ → ℕ
list_steps index p = steps_from (λ k. get_or index (256 + k) 0) 128 (get_or index (bucket_of p) 0)

-- ---- the passes

-- Building enters entry k of the first description by one search for its key, in the table and the cells as the entries
-- before it have left them.
abbrev pub building_looks : (ℕ → List ℕ) → ℕ → (ℕ → List ℕ) → (ℕ → ℕ) → ℕ → ℕ
building_looks tables most cells key k = slot_looks (tables k) most (cells k) (key k)

-- Marking walks once for slot x of the table, to the end, where its place has the property and some pair may have it, and
-- restricting once more, to the end at the most, where it is a property's.
unfoldable pub marking_steps : List ℕ → ℕ → ℕ
marking_steps index x = cond (marked_slot index x) (list_steps index (key_in x % 65536)) 0

unfoldable pub restricting_steps : List ℕ → ℕ → ℕ
restricting_steps index x = cond (ltb (key_in x % 131072) 65536) (list_steps index (key_in x % 65536)) 0

-- the state of the place where entry n of the second description stands
abbrev pub state_at : List Slot → List Entry → ℕ → ℕ
state_at ss es n = state_of ss es (owner_of es n) (owner_of es n)

-- Judging looks for the slot of entry n at its place, and for none below an at most 0, where all holds.
unfoldable pub judging_looks : List Slot → List ℕ → ℕ → List ℕ → List Entry → ℕ → ℕ
judging_looks ss t most cells es n =
    cond (eqb (state_at ss es n) passed) 0
    (slot_looks t most cells (key_number (state_at ss es n) (link_kind (nth es n).kind) (nth es n).name))

-- a lack is 1, and all other entries 0
unfoldable pub lack_at : List Entry → ℕ → ℕ
lack_at es n = bit (eqb (nth es n).kind 2)

-- Where no slot says it, a lack walks along the chain of its property, to the end at the most.
unfoldable pub judging_steps : List ℕ → List Entry → ℕ → ℕ
judging_steps index es n = cond (eqb (nth es n).kind 2) (list_steps index (nth es n).name) 0
