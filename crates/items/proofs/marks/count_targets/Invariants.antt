-- `count_targets` meets its contract: the degrees by the facts gone over, of which the last is kept.
use Rattle.std.proofs.Common.{◌≡◌, ◌-◌, ◌<◌, ℕ, get_or, length, take}
use Rattle.items.specs.code.Facts.{degree_in}
use Rattle.items.proofs.marks.count_targets.Given as goal

abbrev pub invariant-loop-fact : goal.invariant-loop-fact
invariant-loop-fact l = record {
  size : length l.degrees ≡ 256;
  right : (x : ℕ) → x < 256 → get_or l.degrees x 0 ≡ degree_in (take l.fact-index l.facts) x;
  before : 0 < l.fact-index → l.last ≡ get_or l.facts (l.fact-index - 1) 0;
  none : l.fact-index ≡ 0 → l.last ≡ 18446744073709551615;
}
