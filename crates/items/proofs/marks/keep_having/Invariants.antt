-- `keep_having` meets its contract: first the items that the facts gone over are about, then the marks of the items gone over.
use Rattle.std.proofs.Common.{◌≡◌, ◌&&◌, ◌<◌, ◌≤◌, ℕ, false, get_or, length, take}
use Rattle.items.specs.code.Facts.{has_in}
use Rattle.items.proofs.marks.keep_having.Given as goal

abbrev pub invariant-loop-fact : goal.invariant-loop-fact
invariant-loop-fact l = record {
  size : length l.having ≡ 256;
  right : (x : ℕ) → x < 256 → get_or l.having x false ≡ has_in (take l.fact-index l.facts) x;
}

abbrev pub invariant-loop-x : goal.invariant-loop-x
invariant-loop-x l = record {
  done : (x : ℕ) → x < l.x → get_or l.marks x false ≡ (get_or l.fn.marks x false && get_or l.having x false);
  left : (x : ℕ) → l.x ≤ x → get_or l.marks x false ≡ get_or l.fn.marks x false;
}
