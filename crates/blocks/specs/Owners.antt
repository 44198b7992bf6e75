-- Owners and depths of the entries of a list.
-- Assumes nothing.
use Rattle.std.specs.Prelude.{ℕ, zero, suc, ◌+◌, Bool, cond, ◌&&◌, ◌||◌, List, ◌==◌, nat_le, nat_lt}
use Rattle.blocks.specs.Entries.{nth, owning_kind}
use Rattle.blocks.specs.declared.Entry.{Entry}
use Rattle.blocks.specs.declared.Schema.{Schema}

-- the owner of entry n
unfoldable pub owner_of : List Entry → ℕ → ℕ
owner_of es n = (nth es n).owner

-- [E7] the owner is the top, or an earlier entry that may own
unfoldable pub owner_ok : Schema → List Entry → ℕ → Bool
owner_ok σ es n = owner_of es n == 0 || (nat_lt (owner_of es n) n && (nth es (owner_of es n)).kind == owning_kind σ)

-- the entries in the chain of owners of entry n, followed for at most `steps` steps
unfoldable pub chain : List Entry → ℕ → ℕ → ℕ
chain es zero n = 0
chain es (suc steps) n = cond (owner_of es n == 0) 0 (suc (chain es steps (owner_of es n)))

-- [E9] how many owners an entry has above it. Owners stand earlier, so n steps reach the top.
unfoldable pub depth_of : List Entry → ℕ → ℕ
depth_of es n = chain es n n

-- [E9] at most 32
unfoldable pub depth_ok : List Entry → ℕ → Bool
depth_ok es n = nat_le (depth_of es n) 32

-- The level of an owner: 0 where it may own nothing, else one more than the depth of what it owns. The top's is 1.
unfoldable pub level_of : Schema → List Entry → ℕ → ℕ
level_of σ es zero = 1
level_of σ es (suc k) = cond ((nth es (suc k)).kind == owning_kind σ) (2 + depth_of es (suc k)) 0
