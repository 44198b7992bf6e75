-- The next entry of a pass: its owner was passed before.
-- Assumes nothing.
use Prim.Native.Nat.{◌<◌, ◌≤◌, suc, ℕ}
use lib.ListN.{length}
use mathlib.Core.List.{List}
use mathlib.Core.Path.{◌≡◌, ap}
use native.Mathlib.Omega.{arith}
use Rattle.blocks.specs.Entries.{nth}
use Rattle.blocks.specs.Owners.{owner_of}
use Rattle.blocks.specs.declared.Entry.{Entry}
use Rattle.meaning.specs.Owned.{Owned}

pub owner-before : {es : List Entry} → Owned es → {n : ℕ} → n < length es → {e : Entry} → e ≡ nth es (suc n) → e.owner ≤ n
unfolding owner_of
owner-before O {n} le is' = omega (arith, ap (λ (x : Entry). x.owner) is', O.earlier (suc n) (omega arith) (omega arith))
