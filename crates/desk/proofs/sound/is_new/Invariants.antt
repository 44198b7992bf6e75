-- `is_new` meets its contract: what is left to ask is asked of the stands from the one that is looked at on.
use Rattle.std.proofs.Common.{◌≡◌, ◌-◌, eqb, get_or, not, ℕ}
use Rattle.base.specs.Range.{all}
use Rattle.drafts.specs.Sound.{is_new}
use Rattle.desk.proofs.sound.is_new.Given as goal

abbrev pub invariant-loop-i : goal.invariant-loop-i
invariant-loop-i l = is_new l.names l.j ≡ all (λ (i : ℕ). not (eqb (get_or l.names i 0) (get_or l.names l.j 0))) l.i (l.j - l.i)
