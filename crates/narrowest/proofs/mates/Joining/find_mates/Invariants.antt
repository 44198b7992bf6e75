-- `find_mates` meets its contract: the entries before have their mates.
use lib.ListN.{length}
use mathlib.Core.Path.{◌≡◌}
use Rattle.narrowest.specs.code.Forms.{entries_in}
use Rattle.narrowest.specs.code.Mates.{Mated}
use Rattle.narrowest.proofs.mates.Joining.find_mates.Given as goal

abbrev pub invariant-loop-n : goal.invariant-loop-n
invariant-loop-n l = Mated (entries_in l.self.first.rows.now) (entries_in l.self.second.rows.now) l.n l.mates × (length l.mates ≡ length l.initial.mates)
