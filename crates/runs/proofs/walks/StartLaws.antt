-- Laws of where a walk begins.
-- Assumes nothing.
use Prim.Native.Nat.{◌<◌, ◌≤◌, ℕ}
use lib.ListN.{get_or, length}
use mathlib.Core.List.{List}
use mathlib.Core.Path.{◌≡◌}
use native.Mathlib.Omega.{arith}
use Rattle.base.proofs.Tests.{and_zero, ge-ltb, lt-ltb}
use Rattle.runs.specs.code.Walked.{Starting, chain_start}

module _ (t last before : List ℕ) (r : ℕ) {s at : ℕ} (e : s ≡ get_or last r 0) (i : at ≡ s) where
  pub start-past-table : length t ≤ at → Starting t last before r 0
  unfolding chain_start
  start-past-table h = record { is = rw (← e, ge-ltb {m = s} {n = length t} (omega arith)); in_table = omega arith; in-chain = omega arith }

  pub start-past-chain : length before ≤ at → Starting t last before r 0
  unfolding chain_start
  start-past-chain h = record { is = rw (← e, ge-ltb {m = s} {n = length before} (omega arith), and_zero); in_table = omega arith; in-chain = omega arith }

  pub start-here : at < length t → at < length before → Starting t last before r s
  unfolding chain_start
  start-here h k = record { is = rw (← e, lt-ltb {m = s} {n = length t} (omega arith), lt-ltb {m = s} {n = length before} (omega arith)); in_table = omega arith; in-chain = omega arith }
