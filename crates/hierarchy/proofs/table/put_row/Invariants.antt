-- `put_row` meets its contract: the bytes so far are stored.
use Rattle.std.proofs.Common.{◌≡◌, length}
use Rattle.std.specs.Int.{bit_at}
use Rattle.base.proofs.Lists.{listed}
use Rattle.base.specs.Stores.{stored}
use Rattle.hierarchy.proofs.table.put_row.Given as goal

abbrev pub invariant-loop-j : goal.invariant-loop-j
invariant-loop-j l = (length l.out ≡ length l.initial.out) × (l.out ≡ stored l.initial.out l.at (listed (bit_at l.word) 0 l.j))
