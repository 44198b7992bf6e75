-- `write_out` on a buffer meets its contract.
use Rattle.std.proofs.Common.{refl}
use Rattle.base.proofs.Parts.{high_is}
use Rattle.drafts.proofs.ActLaws.{write-lent, write-short}
use Rattle.desk.proofs.buffer.write_out.Goals as goal

pub returns-then-buffer-lt-COUNTERS : goal.returns-then-buffer-lt-COUNTERS
returns-then-buffer-lt-COUNTERS c = write-short c.args.buffer.now c.args.out.now c.if-buffer-lt-COUNTERS.true refl refl

pub returns : goal.returns
returns c = write-lent c.args.buffer.now c.args.out.now c.counters_in.ensures (high_is 20 c.args.buffer.now) c.write_out.ensures.0 c.write_out.ensures.1
