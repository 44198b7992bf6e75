-- `put_marks` meets its contract: the bytes so far are stored.
use Rattle.std.specs.Prelude.{◌≡◌, length}
use Rattle.base.proofs.Lists.{listed}
use Rattle.base.specs.Range.{bit}
use Rattle.base.specs.Stores.{stored}
use Rattle.earning.specs.code.Tried.{set_of}
use Rattle.earning.proofs.marks.put_marks.Given as goal

abbrev pub invariant-loop-i : goal.invariant-loop-i
invariant-loop-i l = (length l.out ≡ length l.initial.out) × (l.out ≡ stored l.initial.out 0 (listed (λ k. bit (set_of l.kept k)) 1 l.i))
