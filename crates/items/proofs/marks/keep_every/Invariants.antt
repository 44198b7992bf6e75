-- `keep_every` meets its contract: the items that the facts gone over lead out of the set are left no more.
use Rattle.std.proofs.Common.{◌≡◌, ◌&&◌, ◌<◌, ℕ, false, get_or, not, take}
use Rattle.items.specs.code.Facts.{leads_out}
use Rattle.items.proofs.marks.keep_every.Given as goal

abbrev pub invariant-loop-fact : goal.invariant-loop-fact
invariant-loop-fact l = (x : ℕ) → x < 256 → get_or l.marks x false ≡ (get_or l.fn.marks x false && not (leads_out (take l.fact-index l.facts) l.below x))
