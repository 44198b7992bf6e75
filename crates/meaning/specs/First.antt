-- The first entry of a description that a normal form does not hold.
-- Assumes nothing.
use Rattle.std.specs.Prelude.{ℕ, eqb, length, Bool, ◌||◌, List}
use Rattle.base.specs.Search.{first_from}
use Rattle.blocks.specs.Entries.{nth}
use Rattle.blocks.specs.declared.Entry.{Entry}
use Rattle.logic.specs.Background.{Background}
use Rattle.logic.specs.Holds.{holds}
use Rattle.logic.specs.Place.{Place}
use Rattle.meaning.specs.Description.{atom_of, links_to}

-- [C3] [C4] when an entry of D holds, an 'every' always: entry n of D
unfoldable pub entry_holds : Background → Place → List Entry → ℕ → Bool
entry_holds b t d n = eqb (nth d n).kind 5 || holds b t (links_to d n) (atom_of (nth d n))

-- [C6] the lowest entry that fails; 0 where all hold [C5]
unfoldable pub first_failing : Background → Place → List Entry → ℕ
first_failing b t d = first_from (entry_holds b t d) 1 (length d)
