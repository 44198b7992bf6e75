-- Why ranking a list of services is refused, in the order of the rows, and what each byte of its table is told beside.
-- Assumes nothing.
use Rattle.std.specs.Prelude.{◌%◌, ◌+◌, ◌<◌, ◌≤◌, ◌≢◌, ℕ, get_or, length, List, [], ◌⊎◌, ◌≡◌}
use Rattle.answers.specs.Promise.{AsCompared}
use Rattle.answers.specs.Refusals.{ListCut}
use Rattle.blocks.specs.Faults.{Fault, faults}
use Rattle.blocks.specs.Promise.{FirstOf, NoneApplies}
use Rattle.blocks.specs.declared.Cause.TheVariants.{Count, Length, Room}
use Rattle.blocks.specs.declared.Cause.{Cause}
use Rattle.blocks.specs.declared.Schema.TheVariants.{Description}
use Rattle.hierarchy.specs.Answer.{hierarchy_size}
use Rattle.hierarchy.specs.Promise.{RanksServices, service_in, services_in, table_byte}
use Rattle.lists.specs.Parts.{parts_of}
use Rattle.pairs.specs.Pairs.{pair_faults}

-- the lines of the service that n others stand before: it names nothing, since the call takes no dictionary
abbrev pub plain_faults : List ℕ → ℕ → List Fault
plain_faults list n = faults Description (service_in list n)

-- the first service that is refused: as the input that is 1 more than its position, counted from 1
pub record FirstPlain (list : List ℕ) (k : Cause) (i p : ℕ) : Type 0 where
  pub before : ℕ
  pub there : before < services_in list
  pub input : i ≡ 2 + before
  pub accepted : (m : ℕ) → m < before → NoneApplies (plain_faults list m)
  pub first : FirstOf (plain_faults list before) k p

-- and when none is
pub record PlainTaken (list : List ℕ) : Type 0 where
  pub cut : ListCut list
  pub each : (m : ℕ) → m < services_in list → NoneApplies (plain_faults list m)

pub data HierarchyRefused (P list out : List ℕ) : Cause → ℕ → ℕ → Type 0 where
  -- the list of pairs
  list : {k : Cause} {p : ℕ} → FirstOf (pair_faults P) k p → HierarchyRefused P list out k 0 p
  -- then 1 and 8 of the list of services, before any service is looked at
  broken : NoneApplies (pair_faults P) → (length list ≡ 0) ⊎ (length list % 512 ≢ 0) → HierarchyRefused P list out Length 2 0
  many : NoneApplies (pair_faults P) → length list ≢ 0 → length list % 512 ≡ 0 → 64 < services_in list → HierarchyRefused P list out Count 2 0
  -- then the services, each in full before the next
  service : {k : Cause} {i p : ℕ} → NoneApplies (pair_faults P) → ListCut list → FirstPlain list k i p → HierarchyRefused P list out k i p
  -- and 7 last: the output is shorter than what is written
  short : NoneApplies (pair_faults P) → PlainTaken list → length out < hierarchy_size (services_in list) → HierarchyRefused P list out Room 0 0

-- What the answer that m bytes are written says: what the bytes are, and that each of the table is the answer of the single comparison, into any
-- output that is long enough for it.
pub record Ranks (P list out : List ℕ) (m : ℕ) : Type 0 where
  pub ranks : RanksServices P list out m
  pub compared : (i j : ℕ) → i < services_in list → j < services_in list → (o : List ℕ) → length (service_in list i) + length (service_in list j) ≤ length o
      → AsCompared P [] (service_in list i) (service_in list j) o (table_byte P list out i j)
