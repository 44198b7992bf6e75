-- How large the sizes that are worked out can become before they are looked at.
-- Assumes nothing.
use Prim.Native.Nat.{◌*◌, ◌≤◌, ℕ}
use lib.ListN.{length}
use mathlib.Core.List.{List, [], ◌∷◌}
use native.Mathlib.Omega.{arith}
use Rattle.base.proofs.Tests.{bool_cases}
use Rattle.blocks.specs.Entries.{is_named}
use Rattle.blocks.specs.declared.Entry.{Entry}
use Rattle.names.specs.Measures.{size_by}

-- names that stand for at most 1,008 entries each: at most 1,008 for each entry
pub size-most : (S : ℕ → ℕ) → ((n : ℕ) → S n ≤ 1008) → (es : List Entry) → size_by S es ≤ 1008 * length es
unfolding size_by
size-most S h [] = omega arith
size-most S h (e ∷ es) =
    let ih = size-most S h es in
    let one = h e.name in
    bool_cases (is_named e) (λ q. rw q (omega arith)) (λ q. rw q (omega arith))
