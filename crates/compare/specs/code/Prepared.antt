-- What is known where an entry fails: two descriptions, the slots of the first, and room. No public promise names these.
-- Assumes nothing.
use Rattle.std.specs.Prelude.{◌*◌, ◌+◌, ◌<◌, ◌≤◌, ℕ, drop, get_or, length, List, ◌++◌, ◌≢◌, ◌≡◌, Ok}
use Rattle.blocks.specs.Encoding.{blocks_for, encode}
use Rattle.blocks.specs.Entries.{Bounded, entries_of, nth}
use Rattle.blocks.specs.Frame.{plain}
use Rattle.blocks.specs.Promise.{Legal}
use Rattle.blocks.specs.Reading.{reading_of}
use Rattle.blocks.specs.declared.Entry.{Entry}
use Rattle.blocks.specs.declared.Schema.TheVariants.{Description}
use Rattle.compare.specs.code.Codes.{up_from}
use Rattle.logic.specs.Background.{Background, Ruled}
use Rattle.meaning.specs.Description.{links_to}
use Rattle.meaning.specs.Failing.{failing, normal_of}
use Rattle.meaning.specs.SpecimenFor.{specimen_for}
use Rattle.slots.specs.code.Standing.{BothRead}
use Rattle.slots.specs.code.TablePlaces.{Stood, place_in}

-- the specimen that the slots of a table give for entry n of a description
unfoldable pub shown_by : List ℕ → List ℕ → ℕ → List Entry
shown_by t d n = specimen_for (place_in t 0) (entries_of d) n

-- and the output with its blocks
unfoldable pub shown_after : List ℕ → List ℕ → ℕ → List ℕ → List ℕ
shown_after t d n out = encode (shown_by t d n) ++ drop (512 * blocks_for plain (length (shown_by t d n))) out

-- it can be shown: the entry is one of a description's, the rows fit a table of that size, and the blocks fit the output
pub record Showable (t d : List ℕ) (n size : ℕ) (out : List ℕ) : Type 0 where
  pub stood : Stood t
  pub legal : Legal Description (entries_of d)
  pub from : 1 ≤ n
  pub to : n ≤ length (entries_of d)
  -- its fields fit their bytes where those of the entry and of the links to it do, which is known when they are read
  pub bounded : (links : List ℕ) (m : ℕ) → links_to (entries_of d) n ≡ up_from links m → ((i : ℕ) → get_or links i 0 < 65536) → Bounded (nth (entries_of d) n)
      → (k : ℕ) → 1 ≤ k → k ≤ length (shown_by t d n) → Bounded (nth (shown_by t d n) k)
  pub rows : length (shown_by t d n) ≤ size
  pub most : size ≤ 2016
  pub room : 512 * blocks_for plain (length (shown_by t d n)) ≤ length out

-- both descriptions are accepted, and all entries of the second hold
pub record Agreed (b : Background) (c d : List ℕ) : Type 0 where
  pub read : BothRead c d
  pub none : failing b (entries_of c) (entries_of d) ≡ 0

-- both are accepted, entry n is the first that fails, and the slots of the first, whose fields fit their bytes, stand in the table, its normal
-- form at their top
pub record Failed (b : Background) (c d : List ℕ) (n : ℕ) (t : List ℕ) : Type 0 where
  pub read : BothRead c d
  pub fails : failing b (entries_of c) (entries_of d) ≡ n
  pub some' : n ≢ 0
  pub stood : Stood t
  pub few : length t ≤ length (entries_of c) + 1
  pub top : place_in t 0 ≡ normal_of b (entries_of c)
  pub bounded : (k : ℕ) → 1 ≤ k → k ≤ length (entries_of c) → Bounded (nth (entries_of c) k)

-- that under some background with the standing rule in it
pub record FailedSomehow (c d : List ℕ) (n : ℕ) (t : List ℕ) : Type 0 where
  pub background : Background
  pub ruled : Ruled background
  pub failed : Failed background c d n t

-- a table has a number for each entry of a description that is accepted, and one more
abbrev pub Roomy : List ℕ → List ℕ → Type 0
Roomy c t = (n : ℕ) → reading_of Description 1 c ≡ Ok n → n < length t
