-- What the promises on a desk in memory speak of.
-- Assumes nothing.
use Rattle.std.specs.Prelude.{◌≡◌, ℕ, ◌+◌, ◌*◌, ◌≤◌, ◌<◌, List, drop, get_or, length, Ok}
use Rattle.blocks.specs.Encoding.{blocks_for, first_blocks}
use Rattle.blocks.specs.Entries.{entries_of}
use Rattle.blocks.specs.Frame.{plain}
use Rattle.blocks.specs.Promise.{FirstOf}
use Rattle.blocks.specs.Reading.{reading_of}
use Rattle.blocks.specs.declared.Cause.TheVariants as cause
use Rattle.blocks.specs.declared.Cause.{Cause}
use Rattle.blocks.specs.declared.Schema.TheVariants.{Description}
use Rattle.drafts.specs.Draft.{moved}
use Rattle.drafts.specs.Listed.{Given, call_faults}
use Rattle.drafts.specs.declared.Call.TheVariants as call
use Rattle.drafts.specs.declared.Call.{Call}
use Rattle.drafts.specs.Buffer.{after_at, answer_at, counters_in, held_at, memory_in, output_at, run_at}
use Rattle.drafts.specs.Memory.{held_in}
use Rattle.drafts.specs.Sound.{memory_size}
use Rattle.drafts.specs.declared.Desk.{Desk}

-- the counters of stands that are not there are 0
pub record Blank (d : Desk) : Type 0 where
  pub names : (j : ℕ) → d.stands ≤ j → j < 4 → get_or d.names j 0 ≡ 0
  pub counts : (j : ℕ) → d.stands ≤ j → j < 4 → get_or d.counts j 0 ≡ 0

-- [O1] [O10] counters and memory that are a desk's: the memory has its size, and some list of calls from an empty desk
-- gives what they hold
pub record DeskGiven (d : Desk) (m : List ℕ) : Type 0 where
  pub size : memory_size ≤ length m
  pub blank : Blank d
  pub given : Given (held_in d m)

-- ---- in one buffer

abbrev pub GivenAt : List ℕ → Type 0
GivenAt b = DeskGiven (counters_in b) (memory_in b)

-- why a call is refused, in the order of the rows
pub data DeskRefused (b : List ℕ) (c : Call) : Cause → ℕ → ℕ → Type 0 where
  -- [R20] 20 comes first: memory below its size, or what no list of calls gives
  none : (GivenAt b → ⊥) → DeskRefused b c cause.Desk 1 0
  -- then the first line of the call that applies
  line : {k : Cause} {p : ℕ} → GivenAt b → FirstOf (call_faults (held_at b) c) k p → DeskRefused b c k 1 p

-- and why writing out is
pub data WriteRefused (b out : List ℕ) : Cause → ℕ → ℕ → Type 0 where
  absent : (GivenAt b → ⊥) → WriteRefused b out cause.Desk 1 0
  -- [O7] 7 last: the output is shorter than the blocks of the description
  short : GivenAt b → length out < 512 * blocks_for plain (length (held_at b).draft) → WriteRefused b out cause.Room 0 0

-- [O8] What the answer that n entries are left says.
pub record Drafts (b : List ℕ) (c : Call) (n : ℕ) : Type 0 where
  -- before and after it some list of calls gives what is held
  pub given : GivenAt b
  pub still : GivenAt (after_at b c)
  -- what the call does, and how many entries are left
  pub holds : held_at (after_at b c) ≡ moved (held_at b) c
  pub left : n ≡ length (held_at (after_at b c)).draft
  -- the buffer is as long as before
  pub size : length (after_at b c) ≡ length b

-- [O7] What the answer that n entries are written says of the output.
pub record WritesOut (b out : List ℕ) (n : ℕ) : Type 0 where
  pub given : GivenAt b
  pub count : n ≡ length (held_at b).draft
  -- the blocks fit the output, and later bytes are unchanged
  pub room : 512 * blocks_for plain n ≤ length out
  pub later : drop (512 * blocks_for plain n) (output_at b out) ≡ drop (512 * blocks_for plain n) out
  -- they are accepted as a description, with the entries that are held
  pub accepted : reading_of Description 1 (first_blocks n (output_at b out)) ≡ Ok n
  pub entries : entries_of (first_blocks n (output_at b out)) ≡ (held_at b).draft

-- [O9] Going back to a stand that was named on a buffer, after later calls.
pub record Returns (b : List ℕ) (s n : ℕ) (later : List Call) : Type 0 where
  pub accepted : answer_at (run_at (after_at b (call.Name s)) later) (call.GoBack s) ≡ Ok n
  pub yields : (held_at (after_at (run_at (after_at b (call.Name s)) later) (call.GoBack s))).draft ≡ (held_at b).draft

-- [O10] a buffer of zeros that has the size of a desk
pub record Zeros (b : List ℕ) : Type 0 where
  pub size : 20 + memory_size ≤ length b
  pub each : (k : ℕ) → get_or b k 0 ≡ 0
