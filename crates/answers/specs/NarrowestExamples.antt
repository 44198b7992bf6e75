-- Examples of the narrowest description, as one list: each with a list of pairs, the entries of both descriptions, and those of the result.
-- Assumes nothing.
use Rattle.std.specs.Prelude.{ℕ, List, [], ◌∷◌, ◌≡◌}
use Rattle.blocks.specs.Entries.{entry}
use Rattle.blocks.specs.declared.Entry.{Entry}
use Rattle.narrow.specs.Narrowest.{narrowest_entries}
use Rattle.narrow_listed.specs.Listed.{names_in}
use Rattle.pairs.specs.Pairs.{under}

pub data Line : Type 0 where
  joins : List ℕ → List Entry → List Entry → List Entry → Line

-- whichever comes first
abbrev pub Right : Line → Type 0
Right (joins P a b n) = (narrowest_entries (under P) (names_in P) a b ≡ n) × (narrowest_entries (under P) (names_in P) b a ≡ n)

-- the pairs 2-1 and 3-1
abbrev pub two_pairs : List ℕ
two_pairs = 2 ∷ 0 ∷ 1 ∷ 0 ∷ 3 ∷ 0 ∷ 1 ∷ 0 ∷ []

-- 1 and 2, each with 3, 4 and 5
abbrev pub six_pairs : List ℕ
six_pairs =
    1 ∷ 0 ∷ 3 ∷ 0 ∷ 1 ∷ 0 ∷ 4 ∷ 0 ∷ 1 ∷ 0 ∷ 5 ∷ 0
    ∷ 2 ∷ 0 ∷ 3 ∷ 0 ∷ 2 ∷ 0 ∷ 4 ∷ 0 ∷ 2 ∷ 0 ∷ 5 ∷ 0 ∷ []

unfoldable pub lines : List Line
lines =
    -- [G2] the smaller at least, and no at most where one has none
    joins [] (entry 3 0 1 2 ∷ entry 4 0 1 5 ∷ []) (entry 3 0 1 1 ∷ []) (entry 3 0 1 1 ∷ [])
    -- [G2] the larger at most, and what both have below
    ∷ joins [] (entry 4 0 1 5 ∷ entry 5 0 1 0 ∷ entry 1 2 7 0 ∷ entry 1 2 8 0 ∷ []) (entry 4 0 1 3 ∷ entry 5 0 1 0 ∷ entry 1 2 8 0 ∷ [])
    (entry 4 0 1 5 ∷ entry 5 0 1 0 ∷ entry 1 2 8 0 ∷ [])
    -- [G3] at most 0 on one side, at the top
    ∷ joins [] (entry 4 0 1 0 ∷ []) (entry 4 0 1 3 ∷ entry 5 0 1 0 ∷ entry 1 2 7 0 ∷ []) (entry 4 0 1 3 ∷ entry 5 0 1 0 ∷ entry 1 2 7 0 ∷ [])
    -- and one link down, where one has no at most
    ∷ joins [] (entry 5 0 1 0 ∷ entry 4 1 2 0 ∷ []) (entry 5 0 1 0 ∷ entry 5 1 2 0 ∷ entry 1 2 7 0 ∷ [])
    (entry 5 0 1 0 ∷ entry 5 1 2 0 ∷ entry 1 2 7 0 ∷ [])
    -- [G3] at most 0 on both sides
    ∷ joins [] (entry 4 0 1 0 ∷ []) (entry 4 0 1 0 ∷ []) (entry 4 0 1 0 ∷ [])
    -- [G2] a lack that both imply is listed, and one that the result implies is not
    ∷ joins two_pairs (entry 1 0 2 0 ∷ []) (entry 1 0 3 0 ∷ []) (entry 2 0 1 0 ∷ [])
    ∷ joins two_pairs (entry 1 0 2 0 ∷ []) (entry 1 0 2 0 ∷ entry 1 0 3 0 ∷ []) (entry 1 0 2 0 ∷ [])
    -- [G9] lacks that no input lists: more entries than both have
    ∷ joins six_pairs (entry 1 0 1 0 ∷ []) (entry 1 0 2 0 ∷ []) (entry 2 0 3 0 ∷ entry 2 0 4 0 ∷ entry 2 0 5 0 ∷ [])
    -- [G2] all kinds together
    ∷ joins []
    (entry 1 0 7 0 ∷ entry 3 0 1 2 ∷ entry 4 0 1 5 ∷ entry 5 0 1 0 ∷ entry 1 4 7 0 ∷ entry 1 4 8 0 ∷ [])
    (entry 3 0 1 1 ∷ entry 4 0 1 3 ∷ entry 4 0 2 1 ∷ entry 5 0 1 0 ∷ entry 1 4 8 0 ∷ entry 2 4 7 0 ∷ [])
    (entry 3 0 1 1 ∷ entry 4 0 1 5 ∷ entry 5 0 1 0 ∷ entry 1 3 8 0 ∷ [])
    -- [G3] a joined place that comes out empty
    ∷ joins [] (entry 5 0 1 0 ∷ entry 1 1 7 0 ∷ []) (entry 5 0 1 0 ∷ entry 1 1 8 0 ∷ []) []
    -- [G2] one is impossible, and both are
    ∷ joins [] (entry 1 0 7 0 ∷ entry 2 0 7 0 ∷ []) (entry 1 0 8 0 ∷ []) (entry 1 0 8 0 ∷ [])
    ∷ joins [] (entry 6 0 0 0 ∷ []) (entry 6 0 0 0 ∷ []) (entry 6 0 0 0 ∷ [])
    ∷ []
