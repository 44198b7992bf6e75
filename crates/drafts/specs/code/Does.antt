-- What a call by value does, by the definitions of its answer and of what it leaves.
-- Assumes nothing.
use Rattle.std.specs.Prelude.{◌≡◌, ℕ, List}
use Rattle.blocks.specs.Reading.{Reading}
use Rattle.drafts.specs.declared.Call.{Call}
use Rattle.drafts.specs.Answer.{counters_after, desk_answer, memory_after}
use Rattle.drafts.specs.declared.Desk.{Desk}

-- from counters and memory: the counters that are left, the answer, and the memory that is left
pub record Does (d : Desk) (m : List ℕ) (c : Call) (left : Desk) (answer : Reading) (after : List ℕ) : Type 0 where
  pub answers : answer ≡ desk_answer d m c
  pub counters : left ≡ counters_after d m c
  pub bytes : after ≡ memory_after d m c
