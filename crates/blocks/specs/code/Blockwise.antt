-- Passes over entries: which are left, and where one that goes block by block stands. No public promise names these.
-- Assumes nothing.
use Rattle.std.specs.Prelude.{◌≡◌, ℕ, ◌+◌, ◌*◌, ◌/◌, ◌%◌, ◌<◌, ◌≤◌, min, List, ◌++◌, map, length}
use Rattle.blocks.specs.Entries.{entries_from, entries_of, entry_from, nth}
use Rattle.blocks.specs.declared.Entry.{Entry}

-- the blocks that n entries take are all there
abbrev pub Whole : List ℕ → ℕ → Type 0
Whole s n = 512 * ((n + 62) / 63) ≤ length s

-- how many of the entries left stand in the next block
unfoldable pub next_count : ℕ → ℕ
next_count left = min 63 left

-- n of `total` entries are passed, all or those of whole blocks, and the entries of the next block start at index `at`
pub record AtBlock (total n at : ℕ) : Type 0 where
  pub few : n ≤ total
  pub start : at ≡ 512 * ((n + 62) / 63) + 4
  pub full : n < total → n % 63 ≡ 0

-- `count` entries, those after the first n of the list, stand one after the other from index `from` on
pub record InBlock (s : List ℕ) (from count n : ℕ) : Type 0 where
  pub there : from + 8 * count ≤ length s
  pub within : n + count ≤ length (entries_of s)
  pub each : (i : ℕ) → i < count → entry_from s (from + 8 * i) ≡ nth (entries_of s) (n + i + 1)

-- the first n entries of the blocks s; fewer where the whole blocks that are there have no place for so many
unfoldable pub entries_there : List ℕ → ℕ → List Entry
entries_there s n = entries_from s 1 (min n (63 * (length s / 512)))

-- the entries of 8 bytes each, and then those of later blocks
unfoldable pub entries_left : List (List ℕ) → List ℕ → ℕ → List Entry
entries_left here later left = map (λ b. entry_from b 0) here ++ entries_there later left
