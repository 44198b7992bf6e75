-- A workspace, slots that are lent, and a supplier: what stands in their tables. No public promise names these.
-- Assumes nothing.
use Rattle.std.specs.Prelude.{ℕ, length, List, ◌≡◌, Option, Result}
use Rattle.blocks.specs.declared.Refusal.{Refusal}
use Rattle.logic.specs.Background.{Background}
use Rattle.passes.specs.code.Slots.{Slot}
use Rattle.slots.specs.code.Pass.{PassedAll}
use Rattle.slots.specs.code.Marking.{MarkedBy}
use Rattle.slots.specs.code.States.{Indexed}
use Rattle.slots.specs.code.Tables.{Blank, Chained, Cleared, Held}
use Rattle.slots.specs.declared.excluding.Marked.{Marked}
use Rattle.slots.specs.declared.failing.Supplier.{Supplier}
use Rattle.slots.specs.declared.slots.Slots.{Slots}
use Rattle.slots.specs.declared.workspace.Workspace.{Workspace}

-- ---- a workspace

-- it has room for n entries, and is blank where the passes ask for it
abbrev pub Ready : {k : ℕ} → ℕ → ℕ → Workspace k → Type 0
Ready most n w = Cleared n most w.cells.now w.node.now × Blank n w.bad.now × Blank n w.full.now

-- the slots of d stand in a table, and their cells and marks in it
abbrev pub ChainedIn : {k : ℕ} → ℕ → Background → List ℕ → ℕ → List ℕ → List ℕ → Workspace k → Type 0
ChainedIn most b d used origin t w = Chained b d used origin t most w.cells.now w.bad.now w.full.now

-- it lends the tables that it lent before, so that what is written through it is what their owner finds, and has as
-- many marks
abbrev pub SameTables : {k : ℕ} → Workspace k → Workspace k → Type 0
SameTables v w =
    (w.cells.ghost_name ≡ v.cells.ghost_name) × (w.node.ghost_name ≡ v.node.ghost_name)
    × (w.marks.ghost_name ≡ v.marks.ghost_name) × (w.bad.ghost_name ≡ v.bad.ghost_name)
    × (w.full.ghost_name ≡ v.full.ghost_name) × (length w.bad.now ≡ length v.bad.now)

-- ---- slots, and a supplier

-- the settled slots ss stand there
abbrev pub IndexedIn : {m k : ℕ} → List Slot → Slots m k → Type 0
IndexedIn {m} ss s = Indexed ss s.table.now m s.cells.now s.used

-- the settled slots of d stand there, and it is known whether nothing fits it
abbrev pub HeldIn : {m k : ℕ} → Background → List ℕ → Supplier m k → Type 0
HeldIn {m} b d s = Held b d s.slots.used s.slots.table.now m s.slots.cells.now s.impossible

-- the places of the slots ss are marked there
abbrev pub MarkedIn : List Slot → Marked → Type 0
MarkedIn ss m = MarkedBy m.exclusions.pairs.now ss m.marks.now

-- what going over all entries of a service answers
abbrev pub AllPassedIn : {m k : ℕ} → Background → List ℕ → Slots m k → ℕ → ℕ → Result (Option ℕ) Refusal → Type 0
AllPassedIn {m} b d s total i r = PassedAll b d s.table.now m s.cells.now s.used total i r
