-- The cases that give a normal form, Molitor's running example, and one for each rule, as one list.
-- Assumes nothing.
use Rattle.std.specs.Prelude.{List, [], ◌∷◌}
use Rattle.blocks.specs.Entries.{entry}
use Rattle.blocks.specs.declared.Entry.{Entry}

-- a description, and its normal form
pub data Line : Type 0 where
  normalises : List Entry → List Entry → Line

unfoldable pub lines : List Line
lines =
    -- [C16] an impossible place two links down
    normalises (entry 5 0 1 0 ∷ entry 5 1 2 0 ∷ entry 6 2 0 0 ∷ entry 3 1 2 1 ∷ []) (entry 4 0 1 0 ∷ [])
    -- [C16] more is asked than allowed
    ∷ normalises (entry 3 0 1 3 ∷ entry 4 0 1 2 ∷ []) (entry 6 0 0 0 ∷ [])
    -- Molitor's running example C, with links R = 1 and S = 2, properties P = 1 and Q = 2: [N1] the two 'every' of S
    -- merge, [N2] [N3] at most 0 of S is gained
    ∷ normalises
    (entry 5 0 1 0 ∷ entry 1 1 1 0 ∷ entry 1 1 2 0 ∷ entry 5 1 2 0 ∷ entry 3 4 2 1 ∷ entry 5 4 2 0 ∷ entry 1 6 2 0 ∷ entry 2 6 2 0
    ∷ entry 5 0 2 0 ∷ entry 1 9 2 0 ∷ entry 5 0 2 0 ∷ entry 3 11 2 3 ∷ [])
    (entry 5 0 1 0 ∷ entry 5 0 2 0 ∷ entry 1 1 1 0 ∷ entry 1 1 2 0 ∷ entry 4 1 2 0 ∷ entry 1 2 2 0 ∷ entry 3 2 2 3 ∷ [])
    -- and its D, of which nothing is removed: the entries of one owner stand together
    ∷ normalises
    (entry 5 0 1 0 ∷ entry 1 1 1 0 ∷ entry 5 1 2 0 ∷ entry 1 3 2 0 ∷ entry 5 0 2 0 ∷ entry 1 5 2 0 ∷ entry 3 5 2 1 ∷ [])
    (entry 5 0 1 0 ∷ entry 5 0 2 0 ∷ entry 1 1 1 0 ∷ entry 5 1 2 0 ∷ entry 1 2 2 0 ∷ entry 3 2 2 1 ∷ entry 1 4 2 0 ∷ [])
    -- [N1] 'every' entries of one owner and link merge; [N10] equal entries become one
    ∷ normalises (entry 5 0 1 0 ∷ entry 1 1 8 0 ∷ entry 5 0 1 0 ∷ entry 1 3 8 0 ∷ entry 1 3 7 0 ∷ []) (entry 5 0 1 0 ∷ entry 1 1 7 0 ∷ entry 1 1 8 0 ∷ [])
    -- [N2] an impossible place goes with all below, and leaves at most 0
    ∷ normalises (entry 5 0 1 0 ∷ entry 1 1 7 0 ∷ entry 2 1 7 0 ∷ []) (entry 4 0 1 0 ∷ [])
    ∷ normalises (entry 5 0 1 0 ∷ entry 6 1 0 0 ∷ []) (entry 4 0 1 0 ∷ [])
    -- [N3] a place that asks for more than it allows goes likewise
    ∷ normalises (entry 5 0 1 0 ∷ entry 3 1 2 2 ∷ entry 4 1 2 1 ∷ []) (entry 4 0 1 0 ∷ [])
    -- [N4] at most 0 removes the 'every' of its link
    ∷ normalises (entry 5 0 1 0 ∷ entry 1 1 7 0 ∷ entry 4 0 1 0 ∷ []) (entry 4 0 1 0 ∷ [])
    -- [N5] an impossible top becomes one entry of kind 6, which stays
    ∷ normalises (entry 1 0 7 0 ∷ entry 2 0 7 0 ∷ entry 1 0 8 0 ∷ []) (entry 6 0 0 0 ∷ [])
    ∷ normalises (entry 6 0 0 0 ∷ []) (entry 6 0 0 0 ∷ [])
    -- [N6] [N7] the smallest at most and the largest at least stay
    ∷ normalises (entry 4 0 1 5 ∷ entry 3 0 1 1 ∷ entry 4 0 1 4 ∷ entry 3 0 1 2 ∷ []) (entry 3 0 1 2 ∷ entry 4 0 1 4 ∷ [])
    -- [N8] [N9] at least 0 goes, and an 'every' that owns nothing
    ∷ normalises (entry 3 0 1 0 ∷ entry 5 0 1 0 ∷ []) []
    ∷ normalises (entry 5 0 3 0 ∷ entry 3 1 1 0 ∷ []) []
    ∷ []
