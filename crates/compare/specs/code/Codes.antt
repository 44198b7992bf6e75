-- The places of a specimen as codes: a place of the first description's slots, and how far on the path to the entry that fails. No public
-- promise names these.
-- Assumes nothing.
use Rattle.std.specs.Prelude.{◌%◌, ◌*◌, ◌+◌, ◌/◌, ◌≤◌, max, pred, suc, zero, ℕ, eqb, ltb, drop, get_or, length, ◌&&◌, cond, true, List, [], ◌∷◌, map, ◌≢◌, ◌≡◌}
use Rattle.blocks.specs.Entries.{packed}
use Rattle.blocks.specs.declared.Entry.{Entry}
use Rattle.logic.specs.Laying.{Joint, codes, joint, place_numbers}
use Rattle.logic.specs.Filling.{Joined}
use Rattle.logic.specs.Layout.{write}
use Rattle.logic.specs.Place.{Atom, has, least}
use Rattle.logic.specs.SpecimenTree.{Group, SpecimenTree, group}
use Rattle.logic.specs.Tree.{Row}
use Rattle.logic.specs.Witness.{Target, names, off, on, target_links, target_properties, want, witness}
use Rattle.meaning.specs.Description.{atom_of}
use Rattle.meaning.specs.SpecimenFor.{row_entry}
use Rattle.slots.specs.code.TablePlaces.{Stood, below_in, least_in, place_in, slot_by}

-- ---- the target

-- the target of number g: 0 asks nothing, i + 1 asks for the atom at the end of the path, of which i links are passed
unfoldable pub target_at : List ℕ → Atom → ℕ → Target
target_at w a zero = off
target_at w a (suc i) = on (drop i w) a

-- the number of the target that link l leads to
unfoldable pub target_below : List ℕ → ℕ → ℕ → ℕ
target_below w zero l = 0
target_below w (suc i) l = cond (ltb i (length w) && eqb l (get_or w i 0)) (suc (suc i)) 0

-- the path as it is kept, from the entry up: the first m links, last to first
unfoldable pub up_from : List ℕ → ℕ → List ℕ
up_from links zero = []
up_from links (suc m) = get_or links m 0 ∷ up_from links m

-- a code whose target is on the path, or none
abbrev pub OnPath : ℕ → ℕ → Type 0
OnPath m c = c / 1024 ≤ suc m

-- ---- the place of a code, 1,024 times the number of its target and the number of its place

-- the target of the entry e at the end of the path
abbrev pub target_by : List ℕ → ℕ → Entry → ℕ → Target
target_by links m e c = target_at (up_from links m) (atom_of e) (c / 1024)

-- what stands below it
abbrev pub tree_by : List ℕ → List ℕ → ℕ → Entry → ℕ → SpecimenTree
tree_by t links m e c = witness (place_in t (c % 1024)) (target_by links m e c)

-- its properties
abbrev pub properties_by : List ℕ → List ℕ → ℕ → Entry → ℕ → List ℕ
properties_by t links m e c = names has (place_in t (c % 1024)) (target_properties (target_by links m e c))

-- its groups: [C10] the count is N's at least, or what the target asks for, if that is more
abbrev pub count_by : List ℕ → List ℕ → ℕ → Entry → ℕ → ℕ → ℕ
count_by t links m e c l = max (least_in t (slot_by t (c % 1024) true l)) (want (target_by links m e c) l)

abbrev pub code_by : List ℕ → List ℕ → ℕ → ℕ → ℕ → ℕ
code_by t links m c l = 1024 * target_below (up_from links m) (c / 1024) l + below_in t (slot_by t (c % 1024) true l)

abbrev pub group_by : List ℕ → List ℕ → ℕ → Entry → ℕ → ℕ → Joint Group
group_by t links m e c l = joint (group l (pred (count_by t links m e c l))) (code_by t links m c l)

abbrev pub joints_by : List ℕ → List ℕ → ℕ → Entry → ℕ → List (Joint Group)
joints_by t links m e c = map (group_by t links m e c) (names least (place_in t (c % 1024)) (target_links (target_by links m e c)))

-- the number of the row of a specimen: its packed entry
abbrev pub specimen_number : Row ℕ Group → ℕ
specimen_number r = packed (row_entry r)

-- the numbers of its rows, of owner o
abbrev pub numbers_by : List ℕ → List ℕ → ℕ → Entry → ℕ → ℕ → List ℕ
numbers_by t links m e o c = place_numbers specimen_number o (properties_by t links m e c) (joints_by t links m e c)

-- ---- the specimen

-- What the tables give: the slots, a path, and room for all rows of the specimen in a table of that size.
pub record Writable (t : List ℕ) (links : List ℕ) (m : ℕ) (e : Entry) (size : ℕ) : Type 0 where
  pub stood : Stood t
  pub short : m ≤ 32
  pub room : length (write (tree_by t links m e 1024)) ≤ size
  pub fits : size ≤ 2016

-- the place of code c is written as the rows of owner o
abbrev pub PlacedBy : List ℕ → List ℕ → ℕ → Entry → ℕ → ℕ → ℕ → List ℕ → ℕ → List ℕ → List ℕ → ℕ → List ℕ → Type 0
PlacedBy t links m e size o c rows count below rows' r below' =
    Joined size rows count (numbers_by t links m e o c) below (count + length (properties_by t links m e c) + 1) (codes (joints_by t links m e c)) rows' r below'

-- row i is passed where it leads nowhere; else the place that it leads to is written
pub record Stepped (t : List ℕ) (links : List ℕ) (m : ℕ) (e : Entry) (size i : ℕ) (rows : List ℕ) (count : ℕ) (below rows' : List ℕ) (r : ℕ) (below' : List ℕ) : Type 0 where
  pub passed : get_or below i 0 ≡ 0 → (rows' ≡ rows) × (r ≡ count) × (below' ≡ below)
  pub placed : get_or below i 0 ≢ 0 → PlacedBy t links m e size i (get_or below i 0) rows count below rows' r below'
