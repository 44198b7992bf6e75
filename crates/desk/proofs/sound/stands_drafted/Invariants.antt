-- `stands_drafted` meets its contract: what is left to ask is asked of the stands from the one that is looked at on.
use Rattle.std.proofs.Common.{◌≡◌, ◌-◌, ℕ, get_or}
use Rattle.base.specs.Range.{all}
use Rattle.drafts.specs.Memory.{area, entries_at}
use Rattle.drafts.specs.Sound.{drafted}
use Rattle.desk.proofs.sound.stands_drafted.Given as goal

abbrev pub invariant-loop-j : goal.invariant-loop-j
invariant-loop-j l =
    all (λ (j : ℕ). drafted (entries_at l.memory (area j) (get_or l.desk.counts j 0))) 0 l.desk.stands
    ≡ all (λ (j : ℕ). drafted (entries_at l.memory (area j) (get_or l.desk.counts j 0))) l.j (l.desk.stands - l.j)
