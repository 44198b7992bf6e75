-- A normal form in a table, and what is found there.
-- Assumes nothing.
use Rattle.std.specs.Prelude.{◌*◌, ◌+◌, ◌<◌, ◌≤◌, ℕ, drop, eqb, get_or, length, take, cond, List, [], ◌∷◌, map, ◌≡◌}
use Rattle.std.specs.Prelude as code
use Rattle.std.proofs.Math.Option.{Option, none, some}
use Rattle.blocks.specs.Promise.{Legal}
use Rattle.blocks.specs.declared.Entry.{Entry}
use Rattle.blocks.specs.declared.Schema.TheVariants.{Description}
use Rattle.logic.specs.Place.{Kind, has, lacks, least, most}
use Rattle.narrowest.specs.declared.form.AtomKind.{AtomKind}
use Rattle.narrowest.specs.declared.form.AtomKind.TheVariants as kinds
use Rattle.unfolding.specs.code.Rows.{entry_of_row}

-- a kind, as the code names it
abbrev pub kind_in : AtomKind → Kind
kind_in kinds.Has = has
kind_in kinds.Lacks = lacks
kind_in kinds.AtLeast = least
kind_in kinds.AtMost = most

-- a number that may be missing, as the code has it
abbrev pub option_of : Option ℕ → code.Option ℕ
option_of none = code.None
option_of (some m) = code.Some m

-- the entries of a table
abbrev pub entries_in : List ℕ → List Entry
entries_in rows = map entry_of_row rows

-- where entries stand in the order: by owner, kind and name
abbrev pub key_for : ℕ → ℕ → ℕ → ℕ
key_for owner kind name = (owner * 256 + kind) * 65536 + name

unfoldable pub key_in : ℕ → ℕ
key_in x = key_for (entry_of_row x).owner (entry_of_row x).kind (entry_of_row x).name

-- they are those of a description, and ascend
pub record Held (rows : List ℕ) : Type 0 where
  pub few : length rows ≤ 1008
  pub legal : Legal Description (entries_in rows)
  pub rising : (i j : ℕ) → i < j → j < length rows → key_in (get_or rows i 0) < key_in (get_or rows j 0)

-- so far: those before `from` stand before a key, and those from `to` on do not
pub record Halving (rows : List ℕ) (key from to : ℕ) : Type 0 where
  pub order : from ≤ to
  pub limit : to ≤ length rows
  pub below : (i : ℕ) → i < from → key_in (get_or rows i 0) < key
  pub above : (i : ℕ) → to ≤ i → i < length rows → key ≤ key_in (get_or rows i 0)

-- so many stand before a key
pub record Seeks (rows : List ℕ) (key r : ℕ) : Type 0 where
  pub to : r ≤ length rows
  pub below : (i : ℕ) → i < r → key_in (get_or rows i 0) < key
  pub above : (i : ℕ) → r ≤ i → i < length rows → key ≤ key_in (get_or rows i 0)

-- the entries of one owner, in their order
unfoldable pub owned_by : ℕ → List Entry → List Entry
owned_by o [] = []
owned_by o (e ∷ es) = cond (eqb o e.owner) (e ∷ owned_by o es) (owned_by o es)

-- they are these numbers, which stand after the first `from`
pub record Spans (rows : List ℕ) (o from : ℕ) (z : List ℕ) : Type 0 where
  pub to : from + length z ≤ length rows
  pub held : z ≡ take (length z) (drop from rows)
  pub owns : entries_in z ≡ owned_by o (entries_in rows)
