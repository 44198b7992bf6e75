-- The key of a slot as one number, where names are below 65,536.
-- Assumes nothing.
use Rattle.std.specs.Prelude.{◌*◌, ◌+◌, ◌<◌, ℕ, Bool, List, [], ◌∷◌}
use Rattle.std.proofs.Math.Option.{Option, none, some}
use Rattle.base.specs.Range.{bit}
use Rattle.logic.specs.Place.{Atom, atom}
use Rattle.logic.specs.Tree.{Row, leaf_row, node_row}
use Rattle.passes.specs.code.Slots.{Slot, slot}

-- the key of a slot: its place, its class and its name
unfoldable pub key_number : ℕ → Bool → ℕ → ℕ
key_number v b n = 131072 * v + (65536 * bit b + n)

-- a name or a number of an entry
abbrev pub Small : ℕ → Type 0
Small n = n < 65536

abbrev pub SmallTop : Option ℕ → Type 0
SmallTop none = Unit {0}
SmallTop (some h) = Small h

-- a slot whose name and bounds are of entries
abbrev pub SmallSlot : Slot → Type 0
SmallSlot (slot v b n lo hi) = Small n × Small lo × SmallTop hi

abbrev pub SmallSlots : List Slot → Type 0
SmallSlots [] = Unit {0}
SmallSlots (s ∷ ss) = SmallSlot s × SmallSlots ss

abbrev pub SmallRows : List (Row Atom ℕ) → Type 0
SmallRows [] = Unit {0}
SmallRows (leaf_row o (atom a n m) ∷ rs) = (Small n × Small m) × SmallRows rs
SmallRows (node_row o l ∷ rs) = Small l × SmallRows rs
