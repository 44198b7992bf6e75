-- A table of bytes whose rows are 64 apart, its rows as words of 64 bits, and what is read off those. No promise names these.
-- Assumes nothing.
use Rattle.std.specs.Prelude.{◌≡◌, ℕ, ◌+◌, ◌*◌, ◌<◌, ◌≤◌, Bool, ◌&&◌, eqb, ltb, not, get_or, List}
use Rattle.std.specs.Int.{bit_at}
use Rattle.base.proofs.Lists.{listed}
use Rattle.base.specs.Range.{bit}
use Rattle.meaning.specs.Hierarchy.{some_below}

-- cell j of row i of a table of bytes is 1
abbrev pub cell : List ℕ → ℕ → ℕ → Bool
cell t i j = eqb (get_or t (64 * i + j) 0) 1

-- the first n cells of its first n rows are 1 or 0
abbrev pub Flat : ℕ → List ℕ → Type 0
Flat n t = (i j : ℕ) → i < n → j < n → get_or t (64 * i + j) 0 ≤ 1

-- the bits of a word are those of a test of the numbers below n
pub record Told (f : ℕ → Bool) (n w : ℕ) : Type 0 where
  pub at : (j : ℕ) → bit_at w j ≡ bit (ltb j n && f j)

-- those of the first m words are those of a test of rows and columns
pub record Rows (f : ℕ → ℕ → Bool) (n m : ℕ) (ws : List ℕ) : Type 0 where
  pub row : (i : ℕ) → i < m → Told (f i) n (get_or ws i 0)

-- rows and columns exchanged
abbrev pub turned : (ℕ → ℕ → Bool) → ℕ → ℕ → Bool
turned f i j = f j i

-- from where f leads to j by way of k
abbrev pub led : (ℕ → Bool) → (ℕ → ℕ → Bool) → ℕ → ℕ → Bool
led f s j k = f k && s k j

-- j is above i, and above none of n that are above i
abbrev pub uncovered : (ℕ → ℕ → Bool) → ℕ → ℕ → ℕ → Bool
uncovered s n i j = s i j && not (some_below (led (s i) s j) n)

-- n bits of a word, and of each of n words
abbrev pub bits_in : ℕ → ℕ → List ℕ
bits_in n w = listed (bit_at w) 0 n

abbrev pub rows_in : List ℕ → ℕ → List (List ℕ)
rows_in ws n = listed (λ i. bits_in n (get_or ws i 0)) 0 n
