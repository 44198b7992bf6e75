-- [C16] the cases of one list: all of them, each about answers and output bytes.
-- Assumes nothing.
use Rattle.std.specs.Prelude.{ℕ, List, [], ◌∷◌}
use Rattle.blocks.specs.Entries.{entry}
use Rattle.blocks.specs.declared.Entry.{Entry}

-- what the comparison is to answer: contained, or the number of the first entry that fails and the specimen's entries
pub data Outcome : Type 0 where
  inside : Outcome
  outside : ℕ → List Entry → Outcome

-- a line of the desk's list: C, D and the answer; C and its normal form; C that is contained in all [C16]
pub data Line : Type 0 where
  compares : List Entry → List Entry → Outcome → Line
  normalises : List Entry → List Entry → Line
  impossible : List Entry → Line

unfoldable pub lines : List Line
lines =
    -- [C16] both empty, and both `1,7`
    compares [] [] inside
    ∷ compares (entry 1 0 7 0 ∷ []) (entry 1 0 7 0 ∷ []) inside
    -- [C16] at most 1 below a link
    ∷ compares (entry 5 0 1 0 ∷ entry 3 1 2 1 ∷ []) (entry 5 0 1 0 ∷ entry 3 1 2 1 ∷ entry 4 1 2 1 ∷ [])
    (outside 3 (entry 7 0 1 0 ∷ entry 7 1 2 1 ∷ []))
    -- [C16] an impossible place two links down
    ∷ normalises (entry 5 0 1 0 ∷ entry 5 1 2 0 ∷ entry 6 2 0 0 ∷ entry 3 1 2 1 ∷ []) (entry 4 0 1 0 ∷ [])
    ∷ compares (entry 5 0 1 0 ∷ entry 5 1 2 0 ∷ entry 6 2 0 0 ∷ entry 3 1 2 1 ∷ []) (entry 5 0 1 0 ∷ entry 1 1 9 0 ∷ []) inside
    -- [C16] what says nothing causes no no
    ∷ compares [] (entry 5 0 3 0 ∷ entry 3 1 1 0 ∷ []) inside
    ∷ compares [] (entry 5 0 1 0 ∷ []) inside
    -- [C16] exactly 2
    ∷ compares (entry 3 0 1 2 ∷ entry 4 0 1 2 ∷ []) (entry 3 0 1 2 ∷ []) inside
    ∷ compares (entry 3 0 1 2 ∷ entry 4 0 1 2 ∷ []) (entry 3 0 1 3 ∷ []) (outside 1 (entry 7 0 1 1 ∷ []))
    -- [C16] more is asked than allowed
    ∷ normalises (entry 3 0 1 3 ∷ entry 4 0 1 2 ∷ []) (entry 6 0 0 0 ∷ [])
    ∷ impossible (entry 3 0 1 3 ∷ entry 4 0 1 2 ∷ [])
    -- [C16] C empty, D: `4,1,65535`: one group of 65,536
    ∷ compares [] (entry 4 0 1 65535 ∷ []) (outside 1 (entry 7 0 1 65535 ∷ []))
    -- [C16] C: `1,7`, D: `2,8`: both properties
    ∷ compares (entry 1 0 7 0 ∷ []) (entry 2 0 8 0 ∷ []) (outside 1 (entry 1 0 7 0 ∷ entry 1 0 8 0 ∷ []))
    -- [C16] at most 0, and every item nothing
    ∷ compares (entry 4 0 1 0 ∷ []) (entry 5 0 1 0 ∷ entry 6 1 0 0 ∷ []) inside
    ∷ compares (entry 5 0 1 0 ∷ entry 6 1 0 0 ∷ []) (entry 4 0 1 0 ∷ []) inside
    -- [C16] nothing fits the service
    ∷ compares [] (entry 6 0 0 0 ∷ []) (outside 1 [])
    ∷ []
