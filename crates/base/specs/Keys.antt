-- A list of keys. The number of a key is its place in the list, from 1 on.
-- Assumes nothing.
use Rattle.std.specs.Prelude.{ℕ, zero, suc, ◌-◌, ◌&&◌, Option, Some, None, eqb, ltb, cond, List, [], ◌∷◌, ◌++◌, length, get_or}
use Rattle.base.specs.Chain.{last_where}

-- the key of number n
abbrev pub numbered : List ℕ → ℕ → ℕ
numbered l n = get_or l (n - 1) 0

-- the last number that has a key, 0 if none has
abbrev pub last_number : List ℕ → ℕ → ℕ
last_number l x = last_where (numbered l) x (length l)

-- no key is number 0
abbrev pub unless_zero : ℕ → Option ℕ
unless_zero zero = None
unless_zero (suc k) = Some (suc k)

-- the number of a key, of keys that all differ; none where it is not among them
abbrev pub number_in : List ℕ → ℕ → Option ℕ
number_in l x = unless_zero (last_number l x)

-- the keys with one more behind them, unless it is among them, or there are `room` of them already
unfoldable pub with_key : ℕ → List ℕ → ℕ → List ℕ
with_key room l x = cond (eqb (last_number l x) 0 && ltb (length l) room) (l ++ x ∷ []) l
