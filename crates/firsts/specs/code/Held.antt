-- A table of keys by their numbers, as the code keeps it.
-- Assumes nothing.
use Rattle.std.specs.Prelude.{ℕ, ◌-◌, ◌/◌, ◌<◌, ◌≤◌, ◌≢◌, ◌||◌, cond, eqb, ltb, min, List, length, take}
use Rattle.base.specs.Keys.{numbered}
use Rattle.base.specs.Ways.{Planted, by_product}

-- how many keys there is room for: each needs two cells beside those where searches begin; none where no search could begin,
-- or where there are more than 65,536 cells
unfoldable pub room_of : ℕ → ℕ → ℕ → ℕ
room_of most cells keys = cond (eqb most 0 || ltb 65536 cells) 0 (min keys ((cells - most - 2) / 2))

-- so many keys, no two alike, each on its way
pub record Sound (keys cells : List ℕ) (most used : ℕ) : Type 0 where
  pub small : length cells ≤ 65536
  pub in_keys : used ≤ length keys
  pub planted : Planted (numbered (take used keys)) (by_product most) cells used
  pub apart : (i j : ℕ) → 1 ≤ i → i < j → j ≤ used → numbered (take used keys) i ≢ numbered (take used keys) j

-- and no more than there is room for
pub record Held (keys cells : List ℕ) (most room used : ℕ) : Type 0 where
  pub few : used ≤ room
  pub sound : 0 < room → Sound keys cells most used
