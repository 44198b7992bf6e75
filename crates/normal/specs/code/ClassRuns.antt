-- The cells of a place from its two runs, properties before links, each in the order of the names. No public promise names these.
-- Assumes nothing.
use Rattle.std.specs.Prelude.{◌%◌, ◌*◌, ◌+◌, ◌/◌, ◌<◌, ◌≤◌, ℕ, get_or, length, take, Bool, false, true, List, ◌++◌, map, ◌≡◌}
use Rattle.base.specs.Range.{bit}
use Rattle.logic.specs.Place.{Kind}
use Rattle.passes.specs.code.Slots.{Cell, cell, is_link}
use Rattle.runs.specs.code.Chained.{RunChains}
use Rattle.runs.specs.code.Tagged.{tags_down}
use Rattle.slots.specs.code.TablePlaces.{used_in}
use Rattle.slots.specs.code.Tables.{high_in, high_part, key_in, low_part}
use Rattle.sorting.specs.Sorted.{sorted}

-- the cell of a tag, of class b: its bounds stand in the table
abbrev pub cell_at : List ℕ → Bool → ℕ → Cell
cell_at t b x = cell (x % 1024) b (x / 1024) (low_part (get_or t (x % 1024) 0)) (high_in (high_part (get_or t (x % 1024) 0)))

-- of the class of a kind
abbrev pub kind_cell : List ℕ → Kind → ℕ → Cell
kind_cell t a x = cell_at t (is_link a) x

-- the cells of place v and class b
abbrev pub run_cells : List ℕ → ℕ → ℕ → Bool → List Cell
run_cells t used v b = map (cell_at t b) (sorted (tags_down t (2 * v + bit b) 0 used))

-- all of place v
unfoldable pub place_cells : List ℕ → ℕ → ℕ → List Cell
place_cells t used v = run_cells t used v false ++ run_cells t used v true

-- a table of slots up to its end, each at a place of a lower number and with a small bound
pub record Runnable (t : List ℕ) : Type 0 where
  pub some' : 1 ≤ length t
  pub few : length t ≤ 1009
  pub lower : (j : ℕ) → 1 ≤ j → j ≤ used_in t → key_in (get_or t j 0) / 131072 < j
  pub bound : (j : ℕ) → 1 ≤ j → j ≤ used_in t → low_part (get_or t j 0) < 65536

-- they stand on the chains of their runs
pub record Chained (t last before : List ℕ) : Type 0 where
  pub chains : RunChains t last before (length last) (used_in t)
  pub wide : 2 * length t ≤ length last
  pub befores : length t ≤ length before

-- the numbers are the tags of slots of the table
pub record Tagged (t z : List ℕ) : Type 0 where
  pub slot : (i : ℕ) → i < length z → get_or z i 0 % 1024 < length t
  pub bound : (i : ℕ) → i < length z → low_part (get_or t (get_or z i 0 % 1024) 0) < 65536
  pub name : (i : ℕ) → i < length z → get_or z i 0 / 1024 < 65536

-- n numbers are the tags of a run, in order
pub record InOrder (t : List ℕ) (run : ℕ) (z : List ℕ) (n : ℕ) : Type 0 where
  pub fits : n ≤ length z
  pub held : take n z ≡ sorted (tags_down t run 0 (used_in t))
