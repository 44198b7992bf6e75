-- `put_classes` meets its contract: the bytes so far are stored.
use Rattle.std.proofs.Common.{◌≡◌, ℕ, Bool, length}
use Rattle.base.proofs.Lists.{listed}
use Rattle.base.specs.Stores.{stored}
use Rattle.hierarchy.specs.code.Words.{Rows, turned}
use Rattle.meaning.specs.Hierarchy.{class_of}
use Rattle.hierarchy.proofs.classes.put_classes.Given as goal

abbrev pub invariant-loop-i : goal.invariant-loop-i
invariant-loop-i l = (length l.out ≡ length l.initial.out)
    × ((t : ℕ → ℕ → Bool) → Rows t l.n l.n l.up → Rows (turned t) l.n l.n l.down → l.out ≡ stored l.initial.out l.at (listed (class_of t l.n) 0 l.i))
