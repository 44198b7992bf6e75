-- What an entry says at a place, and places: trees of what their entries say.
-- Assumes nothing.
use Rattle.std.specs.Prelude.{cond, ℕ, eqb}
use Rattle.logic.specs.Tree.{Tree}

-- what an entry that owns nothing says, by the table of kinds [E3]: has, lacks, at least, at most, nothing fits
pub data Kind : Type 0 where
  has lacks least most nothing : Kind

-- a kind, a name (of a property or of a link, by the kind) and a number
pub data Atom : Type 0 where
  atom : Kind → ℕ → ℕ → Atom

-- a place of a description: its atoms, and its 'every' entries, each a link with the place that it owns
abbrev pub Place : Type 0
Place = Tree Atom ℕ

-- the kind of a kind number; 5 is 'every', which owns a place
unfoldable pub kind_of : ℕ → Kind
kind_of k = cond (eqb k 1) has (cond (eqb k 2) lacks (cond (eqb k 3) least (cond (eqb k 4) most nothing)))
