-- `push_properties` meets its contract: before each turn, the properties of the tags before it are pushed.
use Prim.Native.Nat.{◌+◌}
use lib.ListN.{length, take}
use mathlib.Core.List.{map}
use mathlib.Core.Path.{◌≡◌}
use Rattle.compare.specs.code.Codes.{specimen_number}
use Rattle.logic.specs.Laying.{leaf_rows}
use Rattle.compare.specs.code.Tags.{tag_name}
use Rattle.logic.specs.Filling.{Filled}
use Rattle.compare.proofs.rows.push_properties.Given as goal

abbrev pub invariant-loop-x : goal.invariant-loop-x
invariant-loop-x l = (l.k ≡ l.count + l.x-index) × Filled (length l.initial.rows) l.initial.rows l.count (map specimen_number (leaf_rows l.owner (map tag_name (take l.x-index l.tags)))) l.rows l.k
