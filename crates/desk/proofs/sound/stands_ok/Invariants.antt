-- `stands_ok` meets its contract: what is left to ask is asked of the stands from the one that is looked at on.
use Rattle.std.proofs.Common.{◌≡◌, ◌-◌}
use Rattle.base.specs.Range.{all}
use Rattle.drafts.specs.Sound.{stand_ok}
use Rattle.desk.proofs.sound.stands_ok.Given as goal

abbrev pub invariant-loop-j : goal.invariant-loop-j
invariant-loop-j l = all (stand_ok l.desk) 0 4 ≡ all (stand_ok l.desk) l.j (4 - l.j)
