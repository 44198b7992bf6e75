-- `put_bytes` meets its contract: the bytes of the items gone over are there, and later ones as they were.
use Rattle.std.proofs.Common.{◌≡◌, ◌<◌, ◌≤◌, ℕ, false, get_or, length}
use Rattle.base.specs.Range.{bit}
use Rattle.items.proofs.answer.put_bytes.Given as goal

abbrev pub invariant-loop-x : goal.invariant-loop-x
invariant-loop-x l = record {
  long : length l.out ≡ length l.fn.out;
  here : (x : ℕ) → x < l.x → get_or l.out x 0 ≡ bit (get_or l.marks x false);
  later : (x : ℕ) → l.x ≤ x → get_or l.out x 0 ≡ get_or l.fn.out x 0;
}
