-- Laws of a pair by itself, of the search for a wrong one, and of the list, one for each way through the code.
-- Assumes nothing.
use Rattle.std.proofs.Common.{Option, Some, None, MatchOption}
use Prim.Native.Nat.{◌%◌, ◌+◌, ◌<◌, ◌≤◌, ℕ}
use lib.Dec.{eqb}
use lib.ListN.{length}
use mathlib.Core.Bool.{Bool, false, true}
use mathlib.Core.List.{List}
use mathlib.Core.Logic.{◌≢◌}
use mathlib.Core.Path.{◌≡◌, sym}
use native.Mathlib.Omega.{arith}
use Rattle.base.proofs.SearchLaws.{Least, least_first, none_first}
use Rattle.base.proofs.Tests.{eq-eqb, ge-ltb, lt-ltb, ne_eqb}
use Rattle.base.specs.Search.{first_from}
use Rattle.blocks.proofs.Refusing.SearchedRows.{found_at, rows-searched}
use Rattle.blocks.specs.Faults.{first}
use Rattle.std.specs.Prelude.{Ok}
use Rattle.blocks.specs.Refusals.{refused}
use Rattle.pairs.specs.Pairs.{list_wrong, one_of, other_of, pair_count, pair_faults, pair_wrong, pairs_reading}
use Rattle.pairs.specs.code.Search.{Finds, pair_right}
use Rattle.blocks.specs.declared.Cause.TheVariants.{Pairs}

-- ---- one pair

module _ (P : List ℕ) (i : ℕ) {a b : ℕ} (e : a ≡ one_of P i) (f : b ≡ other_of P i) where
  pub one-zero : a ≡ 0 → true ≡ pair_wrong P i
  unfolding pair_wrong
  one-zero z = simp (pair_wrong, ← e, eq-eqb z)

  pub other-zero : a ≢ 0 → b ≡ 0 → true ≡ pair_wrong P i
  unfolding pair_wrong
  other-zero h z = simp (pair_wrong, ← e, ← f, ne_eqb h, eq-eqb z)

  pub equal-decides : a ≢ 0 → b ≢ 0 → eqb a b ≡ pair_wrong P i
  unfolding pair_wrong
  equal-decides h k = simp (pair_wrong, ← e, ← f, ne_eqb h, ne_eqb k)

-- ---- the search for a wrong one

-- what is found is the first that fails the test
pub found-first : (f : ℕ → Bool) (n : ℕ) (r : Option ℕ)
    → MatchOption r ((k : ℕ) → 1 ≤ k → k < n + 1 → f k ≡ true) (λ i. (1 ≤ i) × (i < n + 1) × (f i ≡ false) × ((k : ℕ) → 1 ≤ k → k < i → f k ≡ true))
    → Finds f n r
found-first f n None h = none_first f 1 n (λ j lo hi. h j lo (omega arith))
found-first f n (Some i) h =
    let least : Least f 1 (1 + n) i = record { low = h.0; high = omega (arith, h.1); fails = h.2; before = h.3 } in
    (sym (least_first f 1 n i least), h.0, omega (arith, h.1))

-- ---- the list

module _ (P : List ℕ) where
  list-refused : list_wrong P ≡ true → refused Pairs 0 0 ≡ pairs_reading P
  unfolding pairs_reading pair_faults first
  list-refused q = simp (pairs_reading, pair_faults, q)

  pub not-of-fours : length P % 4 ≢ 0 → refused Pairs 0 0 ≡ pairs_reading P
  unfolding list_wrong
  not-of-fours h = list-refused (simp (list_wrong, ne_eqb h))

  module _ {n : ℕ} (e : n ≡ pair_count P) (m : length P % 4 ≡ 0) where
    pub too_many : 64 < n → refused Pairs 0 0 ≡ pairs_reading P
    unfolding list_wrong
    too_many h = list-refused (simp (list_wrong, ← e, eq-eqb m, lt-ltb h))

    module _ (few : n ≤ 64) {w : ℕ} (f : w ≡ first_from (pair_right P) 1 n) where
      list_right : list_wrong P ≡ false
      unfolding list_wrong
      list_right = simp (list_wrong, ← e, eq-eqb m, ge-ltb few)

      first-pair : first (pair_faults P) ≡ found_at Pairs w
      unfolding pair_faults first
      first-pair = simp (pair_faults, list_right, ← e, rows-searched (pair_wrong P) Pairs 1 n (omega arith), ← f)

      pub pair-refused : w ≢ 0 → refused Pairs 0 w ≡ pairs_reading P
      unfolding pairs_reading
      pair-refused h = rw (pairs_reading, first-pair, ne_eqb h)

      pub list-accepted : w ≡ 0 → Ok n ≡ pairs_reading P
      unfolding pairs_reading
      list-accepted z = rw (pairs_reading, first-pair, eq-eqb z, ← e)
