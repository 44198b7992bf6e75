-- One pass over the entries of a service, which checks and judges them: how far it has come, and what it answers.
-- Assumes nothing.
use Rattle.std.specs.Prelude.{◌+◌, ◌-◌, ◌<◌, ◌≤◌, ℕ, IfSome, drop, get_or, length, take, unwrap_or, List, ◌≡◌, Option, Result, Ok, Err}
use Rattle.std.specs.Iterator.Adapters.{enumerate_count, enumerate_source}
use Rattle.std.specs.declared.iter.Enumerate.{Enumerate}
use Rattle.base.specs.Search.{first_from}
use Rattle.blocks.specs.Entries.{entries_of}
use Rattle.blocks.specs.Faults.{Clean, Faulty, first}
use Rattle.blocks.specs.code.Blockwise.{entries_left}
use Rattle.blocks.specs.code.ReadingSteps.{Levels, rule_faults}
use Rattle.blocks.specs.declared.Entry.{Entry}
use Rattle.blocks.specs.declared.in_order.InOrder.{InOrder}
use Rattle.blocks.specs.declared.Refusal.{Refusal}
use Rattle.blocks.specs.declared.Schema.TheVariants.{Named}
use Rattle.logic.specs.Background.{Background}
use Rattle.meaning.specs.Owned.{Owned}
use Rattle.passes.specs.code.Slots.{Slot}
use Rattle.slots.specs.code.States.{Indexed, Stated, holds_by_slots, passed}

-- what an iterator that counts has left
abbrev pub left_in : Enumerate InOrder → List Entry
left_in it = entries_left (enumerate_source it).here.now (enumerate_source it).later.now (enumerate_source it).left

-- it goes over the first `total` entries of d, and its count is how many of them it has given
pub record Left (d : List ℕ) (total : ℕ) (it : Enumerate InOrder) : Type 0 where
  pub few : total ≤ length (entries_of d)
  pub given : enumerate_count it ≤ total
  pub left : left_in it ≡ drop (enumerate_count it) (take total (entries_of d))

-- what checking entry n does, where a table has the levels of those before it
abbrev pub EntryChecked : List Entry → ℕ → ℕ → Result (Unit {0}) Refusal → List ℕ → Type 0
EntryChecked es n i (Err e) level =
    ((total : ℕ) → n ≤ total → first (rule_faults (Named 0) es n (total + 1 - n)) ≡ Faulty e.cause e.place) × (e.input ≡ i)
EntryChecked es n i (Ok u) level =
    Levels (Named 0) es level (n + 1)
    × ((total : ℕ) → n ≤ total → first (rule_faults (Named 0) es n (total + 1 - n)) ≡ first (rule_faults (Named 0) es (n + 1) (total + 1 - (n + 1))))

-- what checking those after the first n does
abbrev pub RestChecked : List ℕ → ℕ → ℕ → ℕ → Result (Unit {0}) Refusal → Type 0
RestChecked d n total i (Err e) = (first (rule_faults (Named 0) (entries_of d) (n + 1) (total + 1 - (n + 1))) ≡ Faulty e.cause e.place) × (e.input ≡ i)
RestChecked d n total i (Ok u) = first (rule_faults (Named 0) (entries_of d) (n + 1) (total + 1 - (n + 1))) ≡ Clean

-- n entries are passed, all of which hold, and a table has their states. That the states are right needs owners that stand earlier, all of them,
-- which is known only when all entries are checked.
pub record JudgedSoFar (b : Background) (d t : List ℕ) (most : ℕ) (cells : List ℕ) (used n : ℕ) (states : List ℕ) : Type 0 where
  pub room : length (entries_of d) < length states
  pub small : (j : ℕ) → j ≤ n → get_or states j 0 ≤ passed
  pub stated : Owned (entries_of d) → Stated d t most cells used n states
  pub none : Owned (entries_of d) → (ss : List Slot) → Indexed ss t most cells used → 0 ≡ first_from (holds_by_slots b ss (entries_of d)) 1 n

-- what going over all of them does
abbrev pub PassedAll : Background → List ℕ → List ℕ → ℕ → List ℕ → ℕ → ℕ → ℕ → Result (Option ℕ) Refusal → Type 0
PassedAll b d t most cells used total i (Err e) = (first (rule_faults (Named 0) (entries_of d) 1 total) ≡ Faulty e.cause e.place) × (e.input ≡ i)
PassedAll b d t most cells used total i (Ok f) =
    (first (rule_faults (Named 0) (entries_of d) 1 total) ≡ Clean)
    × (Owned (entries_of d) → (ss : List Slot) → Indexed ss t most cells used → unwrap_or f 0 ≡ first_from (holds_by_slots b ss (entries_of d)) 1 total)
    × IfSome f (λ k. 1 ≤ k)
