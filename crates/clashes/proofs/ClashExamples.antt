-- Number 12 by examples: what completes a pair, and what does not. The list has one pair, clay, which is property 5, and sand, 9.
-- Assumes nothing.
use Prim.Native.Nat.{ℕ}
use lib.ListN.{length}
use mathlib.Core.List.{List, [], ◌∷◌}
use mathlib.Core.Path.{◌≡◌, refl}
use Rattle.base.specs.Range.{all}
use Rattle.base.specs.Search.{first_from}
use Rattle.blocks.specs.Entries.{entry, nth}
use Rattle.blocks.specs.Owners.{owner_of}
use Rattle.blocks.specs.Words.{word_at}
use Rattle.blocks.specs.declared.Entry.{Entry}
use Rattle.clashes.specs.Clash.{completes, one_of_first}
use Rattle.clashes.specs.Promise.{apart_ok}
use Rattle.pairs.specs.Pairs.{excludes_in, is_pair, one_of, other_of, pair_count}

abbrev clay_sand : List ℕ
clay_sand = 5 ∷ 0 ∷ 9 ∷ 0 ∷ []

-- the lowest entry that completes the pair; 0 if none does
abbrev lowest : List Entry → ℕ
lowest es = first_from (apart_ok clay_sand es) 1 (length es)

pub examples :  -- the later of two entries completes it, in either order; one of them alone does not
    (lowest (entry 1 0 5 0 ∷ entry 1 0 9 0 ∷ []) ≡ 2)
    × (lowest (entry 1 0 9 0 ∷ entry 1 0 5 0 ∷ []) ≡ 2)
    × (lowest (entry 1 0 5 0 ∷ entry 1 0 5 0 ∷ []) ≡ 0)
    -- clay of the top and sand of a group's items; a link of sand's number
    × (lowest (entry 7 0 1 0 ∷ entry 1 0 5 0 ∷ entry 1 1 9 0 ∷ []) ≡ 0)
    × (lowest (entry 1 0 5 0 ∷ entry 7 0 9 0 ∷ []) ≡ 0)
    -- two pairs, one in the other: the inner one is completed first
    × (lowest (entry 7 0 1 0 ∷ entry 1 0 5 0 ∷ entry 1 1 9 0 ∷ entry 1 1 5 0 ∷ entry 1 0 9 0 ∷ []) ≡ 4)
unfolding first_from completes one_of_first nth owner_of excludes_in is_pair one_of other_of pair_count all word_at
examples = (refl, refl, refl, refl, refl, refl)
