-- Rows pushed one after another, and the atoms that an entry of the first place gives.
-- Assumes nothing.
use Rattle.std.specs.Prelude.{◌+◌, ◌≤◌, min, ℕ, eqb, length, take, cond, List, [], ◌++◌, ◌∷◌, map, ◌≡◌}
use Rattle.std.proofs.Math.Option.{Option, none, some}
use Rattle.blocks.specs.Entries.{packed}
use Rattle.blocks.specs.declared.Entry.{Entry}
use Rattle.logic.specs.Laying.{leaf_rows}
use Rattle.logic.specs.Normal.{find, found, rank}
use Rattle.logic.specs.Place.{Atom, Kind, Place, atom, has, lacks, least, most, nothing}
use Rattle.logic.specs.Tree.{Row}
use Rattle.logic.specs.Witness.{or_zero}
use Rattle.meaning.specs.RowEntries.{row_entry}
use Rattle.narrow.specs.Join.{larger}
use Rattle.passes.specs.code.Slots.{value}

-- Numbers are pushed onto a table of so many places, which has `from` of them; one that finds no room is not stored, and
-- the number is then one more than there is room for.
pub record Counted (width : ℕ) (rows : List ℕ) (from : ℕ) (L rows' : List ℕ) (r : ℕ) : Type 0 where
  pub size : length rows' ≡ width
  pub total : r ≡ min (from + length L) (width + 1)
  pub held : from + length L ≤ width → take r rows' ≡ take from rows ++ L

-- the packed entry of a row
abbrev pub row_number : Row Atom ℕ → ℕ
row_number r = packed (row_entry r)

-- those of atoms, of owner o
abbrev pub leaf_numbers : ℕ → List Atom → List ℕ
leaf_numbers o as' = map row_number (leaf_rows o as')

-- ---- what two places list together

-- the number of a kind and name, where the first lists m and the second o: a property where both have it, the smaller at
-- least, the larger at most
abbrev pub shared_value : Kind → ℕ → Option ℕ → Option ℕ
shared_value has m o = cond (found o) (some 0) none
shared_value lacks m o = none
shared_value least m o = value least (min m (or_zero o)) none
shared_value most m o = larger (some m) o
shared_value nothing m o = none

-- an atom, if it has a number
abbrev pub atom_if : Kind → ℕ → Option ℕ → List Atom
atom_if k n none = []
atom_if k n (some m) = atom k n m ∷ []

-- what an entry of the first place gives of a kind, beside the second place
unfoldable pub shared : Kind → Place → Entry → List Atom
shared k u e = cond (eqb e.kind (rank k)) (atom_if k e.name (shared_value k e.number (find k e.name u))) []
