-- The tags of a run's slots, by the slots alone: what a walk along a chain has to find. No public promise names these.
-- Assumes nothing.
use Rattle.std.specs.Prelude.{◌*◌, ◌+◌, suc, zero, ℕ, eqb, leb, get_or, ◌&&◌, cond, List, [], ◌∷◌}
use Rattle.runs.specs.code.Chained.{run_at, slot_name}
use Rattle.slots.specs.code.Tables.{low_part}

-- the tag of slot j, which is the number x: its name above its own number, so that tags of one run ascend as the names do
abbrev pub tag_of : ℕ → ℕ → ℕ
tag_of x j = 1024 * slot_name x + j

-- the tags of the slots 1 to n of run r that say at least `low`, the last first
unfoldable pub tags_down : List ℕ → ℕ → ℕ → ℕ → List ℕ
tags_down t r low zero = []
tags_down t r low (suc n) =
    cond (eqb (run_at t (suc n)) r && leb low (low_part (get_or t (suc n) 0))) (tag_of (get_or t (suc n) 0) (suc n) ∷ tags_down t r low n)
    (tags_down t r low n)
