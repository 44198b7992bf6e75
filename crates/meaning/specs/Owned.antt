-- The entries of one owner: tests of all of them, and owners that stand earlier.
-- Assumes nothing.
use Rattle.std.specs.Prelude.{◌<◌, ◌≤◌, suc, zero, ℕ, eqb, length, Bool, ◌&&◌, ◌||◌, not, true, List, ◌≢◌, ◌≡◌}
use Rattle.blocks.specs.Entries.{nth}
use Rattle.blocks.specs.Owners.{owner_of}
use Rattle.blocks.specs.declared.Entry.{Entry}

-- each of the numbers 1 to n of which c gives b passes
unfoldable pub all_where : (ℕ → ℕ) → (ℕ → Bool) → ℕ → ℕ → Bool
all_where c p b zero = true
all_where c p b (suc n) = (not (eqb (c (suc n)) b) || p (suc n)) && all_where c p b n

-- each of the first n entries that o owns passes
abbrev pub all_owned : (ℕ → Bool) → List Entry → ℕ → ℕ → Bool
all_owned p es o n = all_where (owner_of es) p o n

-- each entry stands after its owner, which is the top or an 'every'
pub record Owned (es : List Entry) : Type 0 where
  pub earlier : (k : ℕ) → 1 ≤ k → k ≤ length es → owner_of es k < k
  pub every : (k : ℕ) → 1 ≤ k → k ≤ length es → owner_of es k ≢ 0 → (nth es (owner_of es k)).kind ≡ 5
