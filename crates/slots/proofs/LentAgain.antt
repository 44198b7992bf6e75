-- What is known of tables as they are lent is known of them as their owner finds them.
-- Assumes nothing.
use Prim.Native.Nat.{ℕ}
use mathlib.Core.List.{List}
use mathlib.Core.Path.{◌≡◌}
use Rattle.pairs.specs.declared.sides.Sides.{Sides}
use Rattle.passes.specs.code.Slots.{Slot}
use Rattle.slots.specs.code.Marking.{MarkedBy}
use Rattle.slots.specs.code.Tables.{Kept}

pub marked-again : {P : List ℕ} {ss : List Slot} {marks marks' : List Sides} → MarkedBy P ss marks → marks' ≡ marks → MarkedBy P ss marks'
marked-again k e = rw e k

pub kept-again : {t cells cells' : List ℕ} {most used : ℕ} → Kept t most cells used → cells' ≡ cells → Kept t most cells' used
kept-again k e = rw e k
