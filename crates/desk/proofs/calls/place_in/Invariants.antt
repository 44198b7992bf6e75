-- `place_in` meets its contract: the place is that of a search from the stand that is looked at on.
use Rattle.std.proofs.Common.{◌≡◌, ◌-◌}
use Rattle.drafts.specs.Answer.{place_in, place_of}
use Rattle.desk.proofs.calls.place_in.Given as goal

abbrev pub invariant-loop-i : goal.invariant-loop-i
invariant-loop-i l = place_in l.desk l.s ≡ place_of l.s l.desk.names l.i (l.desk.stands - l.i)
