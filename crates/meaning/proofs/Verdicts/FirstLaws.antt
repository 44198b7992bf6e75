-- The first entry of a description that fails: the least one, and 0 exactly where none fails.
-- Assumes nothing.
use Prim.Native.Nat.{◌+◌, ◌≤◌, ℕ}
use lib.ListN.{length}
use mathlib.Core.Bool.{true}
use mathlib.Core.List.{List}
use mathlib.Core.Logic.{◌≢◌}
use mathlib.Core.Path.{◌≡◌}
use native.Mathlib.Omega.{arith}
use Rattle.base.proofs.SearchLaws.{Least, first-least, first-none, least_first, none_first}
use Rattle.blocks.specs.declared.Entry.{Entry}
use Rattle.logic.specs.Background.{Background}
use Rattle.logic.specs.Place.{Place}
use Rattle.meaning.specs.First.{entry_holds, first_failing}

module _ (b : Background) (t : Place) (d : List Entry) where
  -- no entry fails exactly if each holds
  pub none-failing : ((n : ℕ) → 1 ≤ n → n ≤ length d → entry_holds b t d n ≡ true) → first_failing b t d ≡ 0
  unfolding first_failing
  none-failing h = none_first (entry_holds b t d) 1 (length d) (λ j lo hi. h j lo (omega arith))

  pub failing-none : first_failing b t d ≡ 0 → (n : ℕ) → 1 ≤ n → n ≤ length d → entry_holds b t d n ≡ true
  unfolding first_failing
  failing-none e n lo hi = first-none (entry_holds b t d) 1 (length d) (omega arith) e n lo (omega arith)

  -- the entry that is found is the first that fails
  pub failing-least : {n : ℕ} → first_failing b t d ≡ n → n ≢ 0 → Least (entry_holds b t d) 1 (1 + length d) n
  unfolding first_failing
  failing-least e z = first-least (entry_holds b t d) 1 (length d) e z

  pub least-failing : (n : ℕ) → Least (entry_holds b t d) 1 (1 + length d) n → first_failing b t d ≡ n
  unfolding first_failing
  least-failing n h = least_first (entry_holds b t d) 1 (length d) n h
