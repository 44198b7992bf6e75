-- `keep_lacking` meets its contract: the items that the facts gone over are about are left no more.
use Rattle.std.proofs.Common.{◌≡◌, ◌&&◌, ◌<◌, ℕ, false, get_or, not, take}
use Rattle.items.specs.code.Facts.{has_in}
use Rattle.items.proofs.marks.keep_lacking.Given as goal

abbrev pub invariant-loop-fact : goal.invariant-loop-fact
invariant-loop-fact l = (x : ℕ) → x < 256 → get_or l.marks x false ≡ (get_or l.fn.marks x false && not (has_in (take l.fact-index l.facts) x))
