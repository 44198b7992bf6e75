-- The test that the search for a wrong pair makes, and what a search answers. No public promise names them.
-- Assumes nothing.
use Rattle.std.specs.Prelude.{◌≡◌, ℕ, ◌≤◌, Bool, not, List, Option, MatchOption}
use Rattle.base.specs.Search.{first_from}
use Rattle.pairs.specs.Pairs.{pair_wrong}

-- pair i has no 0 and two different numbers
abbrev pub pair_right : List ℕ → ℕ → Bool
pair_right P i = not (pair_wrong P i)

-- r is the first of the numbers 1 to n that fails the test, or none where all pass
abbrev pub Finds : (ℕ → Bool) → ℕ → Option ℕ → Type 0
Finds f n r = MatchOption r (first_from f 1 n ≡ 0) (λ i. (i ≡ first_from f 1 n) × (1 ≤ i) × (i ≤ n))
