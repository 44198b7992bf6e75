-- `all_zero` meets its contract: the test of the whole range is what was found and the test of what is left of it.
use Prim.Native.Nat.{◌+◌, ◌-◌}
use mathlib.Core.Bool.{◌&&◌, not}
use mathlib.Core.Path.{◌≡◌}
use Rattle.base.specs.Range.{all}
use Rattle.blocks.specs.Frame.{zero_at}
use Rattle.reading.proofs.frame.all_zero.Given as goal

abbrev pub invariant-loop-b : goal.invariant-loop-b
invariant-loop-b l =
    all (zero_at l.s) l.from (l.to - l.from) ≡ not l.found && all (zero_at l.s) (l.from + l.b-index) (l.to - (l.from + l.b-index))
