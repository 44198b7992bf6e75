-- The walk along the chain of a run, and what is found on it, whatever the tables hold. No public promise names these.
-- Assumes nothing.
use Rattle.std.specs.Prelude.{◌+◌, ◌-◌, ◌≤◌, suc, zero, ℕ, eqb, leb, ltb, get_or, length, ◌&&◌, cond, List, [], ◌++◌, ◌∷◌, ◌≡◌}
use Rattle.base.specs.Stores.{stored}
use Rattle.runs.specs.code.Chained.{slot_name}
use Rattle.runs.specs.code.Tagged.{tag_of}
use Rattle.slots.specs.code.Tables.{low_part}

-- the slot where the walk begins: the last of the run, or 0 where a table ends before it
unfoldable pub chain_start : List ℕ → List ℕ → List ℕ → ℕ → ℕ
chain_start t last before r = cond (ltb (get_or last r 0) (length t) && ltb (get_or last r 0) (length before)) (get_or last r 0) 0

-- slot s is where the walk begins; it is below the end of both tables, or 0
pub record Starting (t last before : List ℕ) (r s : ℕ) : Type 0 where
  pub is : s ≡ chain_start t last before r
  pub in_table : s ≤ length t - 1
  pub in-chain : s ≤ length before - 1

-- the slots among 1 to n on the chain from slot s on; it ends at a slot before which there is none of a lower number
unfoldable pub chain_down : List ℕ → ℕ → ℕ → List ℕ
chain_down before s zero = []
chain_down before s (suc n) = cond (eqb s (suc n)) (suc n ∷ chain_down before (get_or before (suc n) 0) n) (chain_down before s n)

-- the slots from s on
abbrev pub chain_from : List ℕ → ℕ → List ℕ
chain_from before s = chain_down before s s

-- the tag of slot s, which is the number x, where it says at least `low`
unfoldable pub tag_if : ℕ → ℕ → ℕ → List ℕ
tag_if low x s = cond (leb low (low_part x)) (tag_of x s ∷ []) []

-- n tags in `order` have become m in `order'`, by the tag of slot s where it says enough
pub record TagPushed (low x s : ℕ) (order : List ℕ) (n : ℕ) (order' : List ℕ) (m : ℕ) : Type 0 where
  pub many : m ≡ n + length (tag_if low x s)
  pub stores : order' ≡ stored order n (tag_if low x s)
  pub most : m ≤ n + 1
  pub size : length order' ≡ length order

-- the tags of those slots that say at least `low`
unfoldable pub tags_along : List ℕ → ℕ → List ℕ → List ℕ
tags_along t low [] = []
tags_along t low (s ∷ ss) = tag_if low (get_or t s 0) s ++ tags_along t low ss

-- the first of the slots that has a name, or 0
unfoldable pub first_named : List ℕ → ℕ → List ℕ → ℕ
first_named t name [] = 0
first_named t name (s ∷ ss) = cond (eqb (slot_name (get_or t s 0)) name) s (first_named t name ss)

-- what is gathered of run r where there is room for so many tags: nothing where there might be more of them
unfoldable pub gathered : List ℕ → List ℕ → List ℕ → ℕ → ℕ → ℕ → List ℕ
gathered t last before r low room =
    cond (leb (chain_start t last before r) room) (tags_along t low (chain_from before (chain_start t last before r))) []

-- the slot of run r that has a name, or 0
unfoldable pub named : List ℕ → List ℕ → List ℕ → ℕ → ℕ → ℕ
named t last before r name = first_named t name (chain_from before (chain_start t last before r))
