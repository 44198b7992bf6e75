-- The table of totals that is worked out before the walk over entries, and how many additions that takes.
-- Assumes nothing.
use Rattle.std.specs.Prelude.{◌%◌, ◌/◌, ◌≤◌, suc, ℕ, eqb, get_or, List, ◌≡◌}
use Rattle.base.specs.Range.{bit, sum}
use Rattle.blocks.specs.Entries.{nth}
use Rattle.blocks.specs.Single.{items_up_to}
use Rattle.blocks.specs.declared.Entry.{Entry}

-- ---- a row: an owner, a link and a number of items, in one number

abbrev pub owner_in : ℕ → ℕ
owner_in row = row / 4294967296 / 65536

abbrev pub link_in : ℕ → ℕ
link_in row = row / 4294967296 % 65536

abbrev pub items_in : ℕ → ℕ
items_in row = row % 4294967296

-- row r, of 1 to `used`, is that of owner o and link l
pub record RowAt (rows : List ℕ) (used o l r : ℕ) : Type 0 where
  pub from : 1 ≤ r
  pub to : r ≤ used
  pub owner : owner_in (get_or rows r 0) ≡ o
  pub link : link_in (get_or rows r 0) ≡ l

-- entry k, of the first n, is a group by link l that o owns
pub record GroupAt (es : List Entry) (n o l k : ℕ) : Type 0 where
  pub from : 1 ≤ k
  pub to : k ≤ n
  pub kind : (nth es k).kind ≡ 7
  pub owner : (nth es k).owner ≡ o
  pub link : (nth es k).name ≡ l

-- ---- the table

-- [F12] for each owner and link with a group the items of its groups, and nothing else: the table of the first n
-- entries
pub record TotalsOf (es : List Entry) (n : ℕ) (rows : List ℕ) (used : ℕ) : Type 0 where
  -- [F12] for each owner and link with a group: there is a row
  pub all : (k o l : ℕ) → GroupAt es n o l k → (r : ℕ) × RowAt rows used o l r
  -- [F12] nothing else: each row is that of an owner and link with a group,
  pub pair : (r o l : ℕ) → RowAt rows used o l r → (k : ℕ) × GroupAt es n o l k
  -- and no owner and link has two
  pub apart : (i j o l : ℕ) → RowAt rows used o l i → RowAt rows used o l j → i ≡ j
  -- [F12] the items of its groups
  pub number : (r o l : ℕ) → RowAt rows used o l r → items_in (get_or rows r 0) ≡ items_up_to es o l n

-- ---- additions

-- the groups among the first n entries: [F13] each group is added once
unfoldable pub groups_up_to : List Entry → ℕ → ℕ
groups_up_to es n = sum (λ i. bit (eqb (nth es (suc i)).kind 7)) n
