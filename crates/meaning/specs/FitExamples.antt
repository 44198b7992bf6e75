-- The cases that have a specimen, as one list.
-- Assumes nothing.
use Rattle.std.specs.Prelude.{List, [], ◌∷◌}
use Rattle.blocks.specs.Entries.{entry}
use Rattle.blocks.specs.declared.Entry.{Entry}

-- the supplier's description C, the service's description D, and a specimen whose top item is to fit C and not D
pub record Case : Type 0 where
  pub specimen : List Entry
  pub supplier : List Entry
  pub service : List Entry

-- C, D and the specimen, in the order of the desk's lines
abbrev case : List Entry → List Entry → List Entry → Case
case c d s = record { specimen = s; supplier = c; service = d }

unfoldable pub cases : List Case
cases =
    -- [C16] C: `5,1 [3,2,1]`, D: `5,1 [3,2,1; 4,2,1]`: one item by link 1, with two by link 2
    case (entry 5 0 1 0 ∷ entry 3 1 2 1 ∷ []) (entry 5 0 1 0 ∷ entry 3 1 2 1 ∷ entry 4 1 2 1 ∷ []) (entry 7 0 1 0 ∷ entry 7 1 2 1 ∷ [])
    -- [C16] C: `3,1,2; 4,1,2`, D: `3,1,3`: one group of 2
    ∷ case (entry 3 0 1 2 ∷ entry 4 0 1 2 ∷ []) (entry 3 0 1 3 ∷ []) (entry 7 0 1 1 ∷ [])
    -- [C16] C empty, D: `4,1,65535`: one group of 65,536
    ∷ case [] (entry 4 0 1 65535 ∷ []) (entry 7 0 1 65535 ∷ [])
    -- [C16] C: `1,7`, D: `2,8`: both properties
    ∷ case (entry 1 0 7 0 ∷ []) (entry 2 0 8 0 ∷ []) (entry 1 0 7 0 ∷ entry 1 0 8 0 ∷ [])
    -- [C16] C empty, D: `6`: a specimen of no entries
    ∷ case [] (entry 6 0 0 0 ∷ []) []
    ∷ []
