-- The cells of each place, as the passes over the slots sort and tag them.
-- Assumes nothing.
use Rattle.std.specs.Prelude.{suc, ℕ, eqb, Bool, ◌&&◌, cond, List, [], ◌∷◌}
use Rattle.base.specs.Ascending.{sort}
use Rattle.base.specs.Range.{bit}
use Rattle.logic.specs.Normal.{before}
use Rattle.passes.specs.code.Slots.{Cell, Slot, cell, cells, closed, inconsistent, slot}

-- ---- the third pass: the cells of each place in ascending order

-- by class, properties first, then by name
abbrev pub before_cell : Cell → Cell → Bool
before_cell (cell j b n lo hi) (cell j' b' n' lo' hi') = before (bit b) n (bit b') n'

unfoldable pub sorted_cells : List Slot → ℕ → List Cell
sorted_cells ss v = sort before_cell (cells 1 ss v)

-- ---- the cells of all places together

-- a settled slot: the place where it stands, and its cell
pub data Tag : Type 0 where
  tag : ℕ → Cell → Tag

unfoldable pub tags : ℕ → List Slot → List Tag
tags k [] = []
tags k (slot u b n lo hi ∷ ss) = tag u (cell k b n lo (closed (b && inconsistent (suc k) ss k) hi)) ∷ tags (suc k) ss

-- the cells of the place v, in the order of the tags
unfoldable pub part : List Tag → ℕ → List Cell
part [] v = []
part (tag u c ∷ z) v = cond (eqb v u) (c ∷ part z v) (part z v)
