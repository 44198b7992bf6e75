-- `push_groups` meets its contract: before each turn, the groups of the tags before it are pushed.
use Prim.Native.Nat.{◌+◌}
use lib.ListN.{length, take}
use mathlib.Core.List.{map}
use mathlib.Core.Path.{◌≡◌}
use Rattle.compare.specs.code.Codes.{specimen_number}
use Rattle.logic.specs.Laying.{codes, joint_rows}
use Rattle.compare.specs.code.Tags.{group_of}
use Rattle.logic.specs.Filling.{Joined}
use Rattle.compare.proofs.rows.push_groups.Given as goal

abbrev pub invariant-loop-x : goal.invariant-loop-x
invariant-loop-x l = (length l.below ≡ length l.initial.below) × (l.k ≡ l.count + l.x-index)
    × Joined (length l.initial.rows) l.initial.rows l.count (map specimen_number (joint_rows l.owner (map (group_of l.slots.table.now l.asked) (take l.x-index l.tags)))) l.initial.below (l.count + 1) (codes (map (group_of l.slots.table.now l.asked) (take l.x-index l.tags))) l.rows l.k l.below
