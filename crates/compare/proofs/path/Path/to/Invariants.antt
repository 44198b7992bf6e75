-- `to` meets its contract: the links to the entry are those into the place of o, then those that are kept.
use Prim.Native.Nat.{◌<◌, ◌≤◌, ℕ}
use lib.ListN.{get_or, length}
use mathlib.Core.Path.{◌≡◌}
use Rattle.blocks.specs.Entries.{entries_of}
use Rattle.compare.proofs.path.PathLaws.{Climbed}
use Rattle.compare.proofs.path.Path.to.Given as goal

abbrev pub invariant-loop-o : goal.invariant-loop-o
invariant-loop-o l = Climbed (entries_of l.d) l.n l.links l.o l.depth × (l.depth ≤ 32) × (length l.links ≡ 32) × ((i : ℕ) → get_or l.links i 0 < 65536)

abbrev pub decreases-loop-o : goal.decreases-loop-o
decreases-loop-o l = l.o
