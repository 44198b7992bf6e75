-- What the counters and the lent memory of a desk hold.
-- Assumes nothing.
use Rattle.std.specs.Prelude.{ℕ, zero, suc, ◌+◌, ◌*◌, List, [], ◌∷◌, get_or}
use Rattle.blocks.specs.Entries.{entry_from}
use Rattle.blocks.specs.declared.Entry.{Entry}
use Rattle.drafts.specs.Draft.{Held, Kept}
use Rattle.drafts.specs.declared.Desk.{Desk}

-- [O10] n entries of 8 bytes, one after the other, from a byte on
unfoldable pub entries_at : List ℕ → ℕ → ℕ → List Entry
entries_at m at zero = []
entries_at m at (suc n) = entry_from m at ∷ entries_at m (at + 8) n

-- [O10] areas of 8,064 bytes: that of the description is the first, and then come those of the stands. This is where
-- the area of stand j begins, counted from 0.
abbrev pub area : ℕ → ℕ
area j = 8064 * (j + 1)

-- the stands from number j on, by their numbers and how many entries each has
unfoldable pub stands_in : List ℕ → List ℕ → List ℕ → ℕ → ℕ → List Kept
stands_in m names counts j zero = []
stands_in m names counts j (suc left) =
    record { number = get_or names j 0; entries = entries_at m (area j) (get_or counts j 0) } ∷ stands_in m names counts (suc j) left

-- [O10] what a desk holds: other bytes of the memory are no part of it
unfoldable pub held_in : Desk → List ℕ → Held
held_in d m = record { draft = entries_at m 0 d.count; stands = stands_in m d.names d.counts 0 d.stands }
