-- Numbers from 1 on, each with a key, found by it: cells, each free, then it is 0, or with the number of one. A search
-- begins in one of the first `most` cells, where its key says. Number n has two cells more, from most + 2 * n on: a search for
-- another key that meets it goes on in one of these, by the next bit of that key's route. Two keys that begin in one cell and
-- have one route are equal, so that a search looks at one cell more than a route has bits at the most, whatever keys were
-- chosen.
-- Assumes nothing.
use Rattle.std.specs.Prelude.{◌≡◌, ℕ, zero, suc, ◌+◌, ◌-◌, ◌*◌, ◌/◌, ◌%◌, ◌<◌, ◌≤◌, ◌≢◌, List, length, get_or, bit_and}
use Rattle.std.specs.Int.{bit_at}

-- how many cells there are where searches begin, and of a key where its search begins, and its route
pub record Way : Type 0 where
  pub most : ℕ
  pub start : ℕ → ℕ
  pub route : ℕ → ℕ

-- where keys are told apart so
pub record Parting (w : Way) : Type 0 where
  pub inside : (x : ℕ) → w.start x < w.most
  pub apart : (x y : ℕ) → w.start x ≡ w.start y → w.route x ≡ w.route y → x ≡ y

-- by remainder and quotient
abbrev pub by_quotient : ℕ → Way
by_quotient most = record { most = most; start = λ x. x % most; route = λ x. x / most }

-- by the middle bits of a product, behind a mask, for keys that come in rows; the route is the key itself
abbrev pub by_product : ℕ → Way
by_product most = record { most = most; start = λ x. bit_and (2654435769 * x / 1048576) (most - 1); route = λ x. x }

-- the cell to which the search for a key comes after some turns
unfoldable pub cell_after : List ℕ → Way → ℕ → ℕ → ℕ
cell_after t w x zero = w.start x
cell_after t w x (suc j) = w.most + 2 * get_or t (cell_after t w x j) 0 + bit_at (w.route x) j

-- cell c is on the way of a key: the search for it comes there, past cells that have numbers
pub record OnWay (t : List ℕ) (w : Way) (x c : ℕ) : Type 0 where
  pub turns : ℕ
  pub cell : c ≡ cell_after t w x turns
  pub full : (j : ℕ) → j < turns → get_or t (cell_after t w x j) 0 ≢ 0

-- number k has a cell
pub record Stands (t : List ℕ) (k : ℕ) : Type 0 where
  pub cell : ℕ
  pub has : get_or t cell 0 ≡ k

-- each of the numbers 1 to n, and no other, has a cell, one only, on the way of its key
pub record Planted (key : ℕ → ℕ) (w : Way) (t : List ℕ) (n : ℕ) : Type 0 where
  pub parting : Parting w
  pub room : w.most + 2 * n + 2 ≤ length t
  pub known : (c : ℕ) → get_or t c 0 ≢ 0 → get_or t c 0 ≤ n
  pub once : (c d : ℕ) → get_or t c 0 ≢ 0 → get_or t c 0 ≡ get_or t d 0 → c ≡ d
  pub on_way : (c : ℕ) → get_or t c 0 ≢ 0 → OnWay t w (key (get_or t c 0)) c
  pub held : (k : ℕ) → 1 ≤ k → k ≤ n → Stands t k

-- after some turns the search for a key has come to cell c: the cells before have numbers with other keys
pub record Passed (key : ℕ → ℕ) (t : List ℕ) (w : Way) (x turns c : ℕ) : Type 0 where
  pub cell : c ≡ cell_after t w x turns
  pub full : (j : ℕ) → j < turns → get_or t (cell_after t w x j) 0 ≢ 0
  pub other : (j : ℕ) → j < turns → key (get_or t (cell_after t w x j) 0) ≢ x

-- and ends there, since the cell's number has this key or the cell is free; it passes so many cells at most, one for each
-- bit of a route
pub record Ends (key : ℕ → ℕ) (t : List ℕ) (w : Way) (bits x c : ℕ) : Type 0 where
  pub turns : ℕ
  pub few : turns ≤ bits
  pub passed : Passed key t w x turns c
  pub found : get_or t c 0 ≢ 0 → key (get_or t c 0) ≡ x
