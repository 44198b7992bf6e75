-- `check_frames` meets its contract: what the whole search finds is what the rest of it finds.
use Rattle.std.proofs.Common.{◌-◌, ◌≡◌, ◌≤◌}
use Rattle.blocks.specs.Faults.{block_faults, first}
use Rattle.blocks.specs.Frame.{framed}
use Rattle.reading.proofs.frame.check_frames.Given as goal

abbrev pub decreases-loop-i : goal.decreases-loop-i
decreases-loop-i g l = l.n - l.i

abbrev pub invariant-loop-i : goal.invariant-loop-i
invariant-loop-i g l = record {
  within : l.i ≤ l.n;
  rest : first (block_faults (framed g.row.WIDTH g.row.ROOM) l.s l.n 0 l.n) ≡ first (block_faults (framed g.row.WIDTH g.row.ROOM) l.s l.n l.i (l.n - l.i));
}
