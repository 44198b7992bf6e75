-- The first entry of a second description that fails, and the specimen that shows it.
-- Assumes nothing.
use Rattle.std.specs.Prelude.{ℕ, List}
use Rattle.blocks.specs.declared.Entry.{Entry}
use Rattle.logic.specs.Background.{Background}
use Rattle.logic.specs.Normal.{nf}
use Rattle.logic.specs.Place.{Place}
use Rattle.meaning.specs.Description.{place_of}
use Rattle.meaning.specs.First.{first_failing}
use Rattle.meaning.specs.SpecimenFor.{specimen_for}

-- [C2] the normal form of C, for the records that keep a background
unfoldable pub normal_of : Background → List Entry → Place
normal_of b c = nf b (place_of c 0)

-- [C6] the lowest entry that fails, 0 where all hold
unfoldable pub failing : Background → List Entry → List Entry → ℕ
failing b c d = first_failing b (normal_of b c) d

-- the specimen, where an entry fails
unfoldable pub specimen_of : Background → List Entry → List Entry → List Entry
specimen_of b c d = specimen_for (normal_of b c) d (failing b c d)
