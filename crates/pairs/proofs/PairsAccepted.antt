-- The list of pairs is accepted exactly where it has none of the faults of 11.
-- Assumes nothing.
use Prim.Native.Nat.{◌%◌, ◌+◌, ◌<◌, ◌≤◌, ℕ}
use lib.Dec.{eqb, ltb}
use lib.ListN.{length}
use mathlib.Core.Bool.{false, not, true}
use mathlib.Core.List.{List}
use mathlib.Core.Logic.{◌↔◌}
use mathlib.Core.Path.{◌≡◌, ap}
use native.Mathlib.Omega.{arith}
use Rattle.base.proofs.Tests.{neither_left, neither_right, not-to-false, or-none, tests, true_of_not}
use Rattle.blocks.proofs.Refusing.FirstFault.{clean-none, none-clean}
use Rattle.blocks.proofs.Refusing.Readings.{accepted-finding}
use Rattle.blocks.proofs.Refusing.RowLaws.{each_none, none_each}
use Rattle.blocks.specs.Faults.{first}
use Rattle.blocks.specs.Promise.{NoneApplies}
use Rattle.std.specs.Prelude.{Ok}
use Rattle.pairs.specs.Pairs.{list_wrong, pair_count, pair_faults, pair_rows, pairs_reading}
use Rattle.pairs.specs.Promise.{RightList}

module _ (P : List ℕ) {n : ℕ} where
  pub pairs-right : pairs_reading P ≡ Ok n → RightList P n
  unfolding pairs_reading pair_faults NoneApplies list_wrong pair_count
  pairs-right e =
      let r = accepted-finding 0 (pair_count P) (first (pair_faults P)) e in
      let none : NoneApplies (pair_faults P) = clean-none (pair_faults P) r.1 in
      let fours : eqb (length P % 4) 0 ≡ true = true_of_not _ (neither_left _ _ none.0) in
      let few : ltb 64 (pair_count P) ≡ false = neither_right (not (eqb (length P % 4) 0)) _ none.0 in
      record {
        whole = omega (tests, fours, r.0);
        few = omega (tests, few, r.0);
        right = λ i lo hi. (none_each (pair_rows P) 1 (pair_count P) none.1 i lo (omega (arith, r.0))).0;
      }

  right-none : RightList P n → NoneApplies (pair_faults P)
  unfolding pair_faults NoneApplies list_wrong pair_count
  right-none R =
      let fours : eqb (length P % 4) 0 ≡ true = omega (tests, R.whole) in
      let few : ltb 64 (pair_count P) ≡ false = omega (tests, R.whole, R.few) in
      let each : (i : ℕ) → 1 ≤ i → i < 1 + pair_count P → NoneApplies (pair_rows P i) = λ i lo hi. (R.right i lo (omega (arith, R.whole)), tt) in
      (or-none (not-to-false fours) few, each_none (pair_rows P) 1 (pair_count P) each)

  pub right-pairs : RightList P n → pairs_reading P ≡ Ok n
  unfolding pairs_reading pair_count
  right-pairs R =
      let many : pair_count P ≡ n = omega (arith, R.whole) in
      rw (pairs_reading, none-clean (pair_faults P) (right-none R)) (ap Ok many)

  pub accepted-exactly : (pairs_reading P ≡ Ok n) ↔ RightList P n
  accepted-exactly = (pairs-right, right-pairs)

  -- it has 64 pairs at most
  pub list-few : pairs_reading P ≡ Ok n → pair_count P ≤ 64
  unfolding pair_count
  list-few e = let R = pairs-right e in omega (arith, R.whole, R.few)

-- it is accepted exactly if it has no fault
pub accepted-none : (P : List ℕ) {n : ℕ} → pairs_reading P ≡ Ok n → NoneApplies (pair_faults P)
unfolding pairs_reading
accepted-none P e = clean-none (pair_faults P) (accepted-finding 0 (pair_count P) (first (pair_faults P)) e).1

pub none-accepted : (P : List ℕ) → NoneApplies (pair_faults P) → pairs_reading P ≡ Ok (pair_count P)
unfolding pairs_reading
none-accepted P n = rw (pairs_reading, none-clean (pair_faults P) n)
