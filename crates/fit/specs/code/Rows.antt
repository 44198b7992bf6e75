-- The rows of the table of totals as the code finds them, and what the walk over entries has at hand. No public promise names these.
-- Assumes nothing.
use Rattle.std.specs.Prelude.{◌≢◌, MatchOption, Option, ◌%◌, ◌*◌, ◌+◌, ◌/◌, ◌<◌, ◌≤◌, ℕ, get_or, length, true, List, ◌≡◌}
use Rattle.base.specs.Chain.{last_where}
use Rattle.base.specs.Links.{is_single}
use Rattle.blocks.specs.Single.{items_up_to}
use Rattle.blocks.specs.declared.Entry.{Entry}
use Rattle.fit.specs.Totals.{items_in}
use Rattle.fit.specs.code.Index.{Indexed, hash_of}

-- an owner and a link as one number; that of a row
abbrev pub pair_of : ℕ → ℕ → ℕ
pair_of o l = 65536 * o + l

abbrev pub pair_in : ℕ → ℕ
pair_in row = row / 4294967296

-- the row of a pair without items
abbrev pub empty_row : ℕ → ℕ
empty_row pair = 4294967296 * pair

-- the bucket of a pair: that of the groups of its owner and link
unfoldable pub pair_bucket : ℕ → ℕ → ℕ
pair_bucket most pair = hash_of most (pair / 65536) 7 (pair % 65536)

-- the pairs of the rows
abbrev pub pairs_of : List ℕ → ℕ → ℕ
pairs_of rows r = pair_in (get_or rows r 0)

-- rows 1 to `used`, chained by the buckets of their pairs
pub record Rows (most : ℕ) (rows links : List ℕ) (used : ℕ) : Type 0 where
  pub room : length rows ≡ most
  pub index : Indexed most (λ r. pair_bucket most (pairs_of rows r)) links used

-- what a look for the row of an owner and a link finds
abbrev pub FoundRow : List ℕ → ℕ → ℕ → ℕ → Option ℕ → Type 0
FoundRow rows used o l found = MatchOption found (last_where (pairs_of rows) (pair_of o l) used ≡ 0) (λ r. (r ≢ 0) × (r < length rows) × (r ≡ last_where (pairs_of rows) (pair_of o l) used))

-- n entries at most were added up: each row has room for more items
pub record Small (n : ℕ) (rows : List ℕ) (used : ℕ) : Type 0 where
  pub within : used ≤ n
  pub items : (r : ℕ) → 1 ≤ r → r ≤ used → items_in (get_or rows r 0) ≤ 65536 * n

-- no owner has two items, among those of the first n entries, by a link that leads to one item only
abbrev pub Singles : List Entry → ℕ → Type 0
Singles es n = (o l : ℕ) → is_single l ≡ true → items_up_to es o l n ≤ 1
