-- The rows of a place as plain lists, and the tables of the walk, as the code keeps them. No public promise names these.
-- Assumes nothing.
use Rattle.std.specs.Prelude.{◌*◌, ◌+◌, ◌<◌, ◌≤◌, ℕ, eqb, get_or, length, replicate, Bool, ◌&&◌, cond, not, List, [], ◌++◌, ◌∷◌, map, ◌≢◌, ◌≡◌, Ok}
use Rattle.std.proofs.Math.Option.{Option, none, some}
use Rattle.std.specs.Prelude as code
use Rattle.blocks.specs.Entries.{packed}
use Rattle.blocks.specs.Reading.{reading_of}
use Rattle.blocks.specs.declared.Schema.TheVariants.{Description}
use Rattle.logic.specs.Filling.{Filled, Joined}
use Rattle.logic.specs.Layout.{write}
use Rattle.logic.specs.Laying.{Joint, joint}
use Rattle.logic.specs.Normal.{at_most}
use Rattle.logic.specs.Place.{Atom, Kind, atom, has, lacks, least, most, nothing}
use Rattle.logic.specs.Tree.{Row, leaf_row, node_row}
use Rattle.meaning.specs.RowEntries.{row_entry}
use Rattle.normal.specs.code.ClassRuns.{kind_cell, place_cells}
use Rattle.normal.specs.declared.emit.AtomKind.{AtomKind}
use Rattle.normal.specs.declared.emit.AtomKind.TheVariants as kinds
use Rattle.normal.specs.declared.settled.Slots.{Slots}
use Rattle.passes.specs.code.Forms.{kept, written}
use Rattle.passes.specs.code.Slots.{Cell, cell, is_link, same_class, value}
use Rattle.slots.specs.code.TablePlaces.{place_in, used_in}

-- ---- rows as entries

-- the packed entry of a row
abbrev pub row_number : Row Atom ℕ → ℕ
row_number r = packed (row_entry r)

-- ---- the rows of one place

-- a row of kind a, if there is a number
abbrev pub rows_if : Kind → ℕ → ℕ → Option ℕ → List (Row Atom ℕ)
rows_if a o n none = []
rows_if a o n (some m) = leaf_row o (atom a n m) ∷ []

-- the rows of kind a of owner o
unfoldable pub kind_rows : Kind → ℕ → List Cell → List (Row Atom ℕ)
kind_rows a o [] = []
kind_rows a o (cell j b n lo hi ∷ q) = cond (same_class b (is_link a)) (rows_if a o n (value a lo hi)) [] ++ kind_rows a o q

-- the 'every' rows of owner o, for the cells that are kept, and the slots that they lead to
unfoldable pub every_rows : (ℕ → Bool → Option ℕ → Bool) → ℕ → List Cell → List (Row Atom ℕ)
every_rows keep o [] = []
every_rows keep o (cell j b n lo hi ∷ q) = cond (keep j b hi) (node_row o n ∷ every_rows keep o q) (every_rows keep o q)

unfoldable pub every_slots : (ℕ → Bool → Option ℕ → Bool) → List Cell → List ℕ
every_slots keep [] = []
every_slots keep (cell j b n lo hi ∷ q) = cond (keep j b hi) (j ∷ every_slots keep q) (every_slots keep q)

-- the rows of a place that are no 'every'
unfoldable pub atom_rows : ℕ → List Cell → List (Row Atom ℕ)
atom_rows o q = kind_rows has o q ++ (kind_rows lacks o q ++ (kind_rows least o q ++ kind_rows most o q))

-- those of the properties, and the bounds of the links
unfoldable pub property_rows : ℕ → List Cell → List (Row Atom ℕ)
property_rows o q = kind_rows has o q ++ kind_rows lacks o q

unfoldable pub bound_rows : ℕ → List Cell → List (Row Atom ℕ)
bound_rows o q = kind_rows least o q ++ kind_rows most o q

-- ---- a place by its leaves and nodes

-- those of kind a
abbrev pub atoms_if : Kind → ℕ → Option ℕ → List Atom
atoms_if a n none = []
atoms_if a n (some m) = atom a n m ∷ []

unfoldable pub kind_atoms : Kind → List Cell → List Atom
kind_atoms a [] = []
kind_atoms a (cell j b n lo hi ∷ q) = cond (same_class b (is_link a)) (atoms_if a n (value a lo hi)) [] ++ kind_atoms a q

-- all of its leaves
unfoldable pub cell_atoms : List Cell → List Atom
cell_atoms q = kind_atoms has q ++ (kind_atoms lacks q ++ (kind_atoms least q ++ kind_atoms most q))

-- its nodes, each with the number of its slot
unfoldable pub cell_joints : (ℕ → Bool → Option ℕ → Bool) → List Cell → List (Joint ℕ)
cell_joints keep [] = []
cell_joints keep (cell j b n lo hi ∷ q) = cond (keep j b hi) (joint n j ∷ cell_joints keep q) (cell_joints keep q)

-- ---- the tables of the walk

-- the number that a cell lists with kind a, if any
abbrev pub cell_value : Kind → Cell → Option ℕ
cell_value a (cell j b n lo hi) = cond (same_class b (is_link a)) (value a lo hi) none

-- a number that may be missing, as the code has it
abbrev pub value_number : Option ℕ → code.Option ℕ
value_number none = code.None
value_number (some m) = code.Some m

-- a kind, as the code names it
abbrev pub kind_in : AtomKind → Kind
kind_in kinds.Has = has
kind_in kinds.Lacks = lacks
kind_in kinds.AtLeast = least
kind_in kinds.AtMost = most

abbrev pub cell_name : Cell → ℕ
cell_name (cell j b n lo hi) = n

-- an 'every' is kept where its slot is a link's, its place has something to say, and its bound is not 0
abbrev pub keep_in : List ℕ → ℕ → Bool → Option ℕ → Bool
keep_in full j b hi = b && (not (eqb (get_or full j 0) 0) && not (at_most 0 hi))

abbrev pub cell_slot : Cell → ℕ
cell_slot (cell j b n lo hi) = j

abbrev pub keep_cell : (ℕ → Bool → Option ℕ → Bool) → Cell → Bool
keep_cell keep (cell j b n lo hi) = keep j b hi

-- the cells of a place, and which 'every' entries are kept, by the slots that are lent
abbrev pub cells_of : Slots → ℕ → List Cell
cells_of s v = place_cells s.table.now (used_in s.table.now) v

abbrev pub kept_by : Slots → ℕ → Bool → Option ℕ → Bool
kept_by s = keep_in s.full.now

-- the row of kind a that a tag's slot gives, if it lists a number
abbrev pub tag_rows : List ℕ → Kind → ℕ → ℕ → List (Row Atom ℕ)
tag_rows t a o x = rows_if a o (cell_name (kind_cell t a x)) (cell_value a (kind_cell t a x))

-- all rows of a place
unfoldable pub place_rows : (ℕ → Bool → Option ℕ → Bool) → ℕ → List Cell → List (Row Atom ℕ)
place_rows keep o q = atom_rows o q ++ every_rows keep o q

-- the rows of all places of a table of slots, from the top on
unfoldable pub all_rows : List ℕ → List (Row Atom ℕ)
all_rows t = write (place_in t 0)

-- each place of a table of slots is written from its cells, and `full` has which of them say something
pub record Grown (t full : List ℕ) : Type 0 where
  pub cells : (v : ℕ) → place_in t v ≡ written (place_in t) (place_cells t (used_in t) v)
  pub keeps : keep_in full ≡ kept (place_in t)

-- the rows are pushed onto a table of so many packed entries, which has `from` of them, and then has r
abbrev pub Pushed : ℕ → List ℕ → ℕ → List (Row Atom ℕ) → List ℕ → ℕ → Type 0
Pushed width rows from L rows' r = Filled width rows from (map row_number L) rows' r

-- a packed entry of these fields
unfoldable pub packed_of : ℕ → ℕ → ℕ → ℕ → ℕ
packed_of kind owner name number = packed (record { kind = kind; reserved = 0; owner = owner; name = name; number = number })

-- Rows are pushed as Pushed says; the places of the slots js follow, the first of them for row `at`.
abbrev pub Placing : ℕ → List ℕ → ℕ → List (Row Atom ℕ) → List ℕ → ℕ → List ℕ → List ℕ → ℕ → List ℕ → Type 0
Placing width rows from L below at js rows' r below' = Joined width rows from (map row_number L) below at js rows' r below'

-- Row k is passed where it leads nowhere; else the rows of the place that it leads to are pushed.
pub record Stepped (keep : ℕ → Bool → Option ℕ → Bool) (S : ℕ → List Cell) (k : ℕ) (rows : List ℕ) (count : ℕ) (below rows' : List ℕ) (r : ℕ) (below' : List ℕ) : Type 0 where
  pub passed : get_or below k 0 ≡ 0 → (rows' ≡ rows) × (r ≡ count) × (below' ≡ below)
  pub placed : get_or below k 0 ≢ 0
      → Placing (length rows) rows count (place_rows keep k (S (get_or below k 0))) below (count + length (atom_rows k (S (get_or below k 0))) + 1) (every_slots keep (S (get_or below k 0))) rows' r below'

-- Tables that are lent for so many slots, and at most 1,008 rows: the last slots of the runs, and the slots that the rows lead to, are
-- cleared.
pub record Lent (used : ℕ) (last before order rows below : List ℕ) : Type 0 where
  pub cleared : last ≡ replicate (length last) 0
  pub lasts : 2 * (used + 1) ≤ length last
  pub befores : used < length before
  pub orders : used ≤ length order
  pub some-row : 1 ≤ length rows
  pub few-rows : length rows ≤ 1008
  pub belows : below ≡ replicate (length rows + 1) 0

-- All tables have room for an input: where it is accepted, its entries are no more than there are rows.
pub record Roomy (d t bad full last before order rows below : List ℕ) : Type 0 where
  pub entries : (n : ℕ) → reading_of Description 1 d ≡ Ok n → n ≤ length rows
  pub slots-room : length t ≡ length rows + 1
  pub bad-room : length bad ≡ length rows + 1
  pub full-room : length full ≡ length rows + 1
  pub lent : Lent (length rows) last before order rows below

-- the rows by the tables of settled slots: one entry of kind 6 where the top is impossible, else the rows of all places
abbrev pub table_rows : List ℕ → List ℕ → List (Row Atom ℕ)
table_rows t bad = cond (eqb (get_or bad 0 0) 0) (all_rows t) (leaf_row 0 (atom nothing 0 0) ∷ [])
