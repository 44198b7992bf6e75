-- Whether counters and memory are a desk's.
-- Assumes nothing.
use Rattle.std.specs.Prelude.{ℕ, Bool, true, false, cond, not, ◌&&◌, ◌==◌, nat_le, nat_lt, List, get_or, length}
use Rattle.base.specs.Range.{all}
use Rattle.blocks.specs.Faults.{Clean, Faulty, Finding, entry_faults, first}
use Rattle.blocks.specs.declared.Entry.{Entry}
use Rattle.blocks.specs.declared.Schema.TheVariants.{Description}
use Rattle.drafts.specs.Memory.{area, entries_at}
use Rattle.drafts.specs.declared.Desk.{Desk}

-- [O10] the bytes of five areas
abbrev pub memory_size : ℕ
memory_size = 40320

-- no stand before number j has its number
abbrev pub is_new : List ℕ → ℕ → Bool
is_new names j = all (λ i. not (get_or names i 0 == get_or names j 0)) 0 j

-- the counters of stand j: of one that is there a number of its own that is not 0, and at most 1,008 entries; of any
-- other 0 and 0
abbrev pub stand_ok : Desk → ℕ → Bool
stand_ok d j =
    cond (nat_lt j d.stands)
    (not (get_or d.names j 0 == 0) && (nat_le (get_or d.counts j 0) 1008 && is_new d.names j))
    (get_or d.names j 0 == 0 && get_or d.counts j 0 == 0)

unfoldable pub counters_ok : Desk → Bool
counters_ok d = nat_le d.count 1008 && (nat_le d.stands 4 && all (stand_ok d) 0 4)

-- what a search finds is nothing
abbrev pub is_clean : Finding → Bool
is_clean Clean = true
is_clean (Faulty k p) = false

-- no entry of a list breaks 4, 5 or 6
unfoldable pub drafted : List Entry → Bool
drafted es = is_clean (first (entry_faults Description es 1 (length es)))

-- the same of each area: those of the stands, and the description's
abbrev pub areas_ok : Desk → List ℕ → Bool
areas_ok d m = all (λ j. drafted (entries_at m (area j) (get_or d.counts j 0))) 0 d.stands && drafted (entries_at m 0 d.count)

-- [R20] the contrary of number 20
unfoldable pub sound : Desk → List ℕ → Bool
sound d m = nat_le memory_size (length m) && (counters_ok d && areas_ok d m)
