-- `keep_most` meets its contract: the items gone over are left by their degrees, and later ones as they were.
use Rattle.std.proofs.Common.{◌≡◌, ◌&&◌, ◌<◌, ◌≤◌, ℕ, false, get_or, leb}
use Rattle.items.proofs.judge.keep_most.Given as goal

abbrev pub invariant-loop-x : goal.invariant-loop-x
invariant-loop-x l = record {
  done : (x : ℕ) → x < l.x → get_or l.marks x false ≡ (get_or l.fn.marks x false && leb (get_or l.degrees x 0) l.n);
  left : (x : ℕ) → l.x ≤ x → get_or l.marks x false ≡ get_or l.fn.marks x false;
}
