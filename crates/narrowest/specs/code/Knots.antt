-- Rows of 'every' entries pushed one after another, each with the code of the place below it noted in a second table.
-- Assumes nothing.
use Rattle.std.specs.Prelude.{◌%◌, ◌+◌, ◌/◌, ◌≤◌, ℕ, get_or, length, List, map, ◌≡◌, ◌≢◌}
use Rattle.blocks.specs.declared.Entry.{Entry}
use Rattle.logic.specs.Filling.{noted}
use Rattle.logic.specs.Laying.{Joint, codes, joint_rows, place_numbers}
use Rattle.logic.specs.Place.{Atom}
use Rattle.narrowest.specs.code.Codes.{atoms_in, knots}
use Rattle.narrowest.specs.code.Pushes.{Counted, row_number}

-- the packed entries of 'every' rows of owner o
abbrev pub knot_numbers : ℕ → List (Joint ℕ) → List ℕ
knot_numbers o js = map row_number (joint_rows o js)

-- They are pushed onto a table of so many places, which has `from` of them. Where all find room, the codes stand beside them, the first at from + 1.
pub record Knotted (width : ℕ) (rows : List ℕ) (from o : ℕ) (js : List (Joint ℕ)) (below rows' : List ℕ) (r : ℕ) (below' : List ℕ) : Type 0 where
  pub pushed : Counted width rows from (knot_numbers o js) rows' r
  pub wide : length below' ≡ length below
  pub notes : from + length js ≤ width → below' ≡ noted below (from + 1) (codes js)

-- The rows of a place: its atoms, and then its 'every' entries, whose codes are noted.
pub record Placed (width : ℕ) (rows : List ℕ) (from o : ℕ) (ls : List Atom) (js : List (Joint ℕ)) (below rows' : List ℕ) (r : ℕ) (below' : List ℕ) : Type 0 where
  pub pushed : Counted width rows from (place_numbers row_number o ls js) rows' r
  pub wide : length below' ≡ length below
  pub notes : from + length ls + length js ≤ width → below' ≡ noted below (from + length ls + 1) (codes js)

-- Row i is passed where it leads nowhere; else the rows of the place that it leads to are pushed.
pub record StepBelow (P : List ℕ) (one two : List Entry) (F : List ℕ) (width i : ℕ) (rows : List ℕ) (count : ℕ) (below rows' : List ℕ) (r : ℕ) (below' : List ℕ) : Type 0 where
  pub passed : get_or below i 0 ≡ 0 → (rows' ≡ rows) × (r ≡ count) × (below' ≡ below)
  pub placed : get_or below i 0 ≢ 0
      → Placed width rows count i (atoms_in P one two (get_or below i 0 / 1024) (get_or below i 0 % 1024)) (knots one two F (get_or below i 0 / 1024) (get_or below i 0 % 1024)) below rows' r below'
