-- `clash_within` meets its contract: the table holds the pairs of the properties that the entries passed give, and none of these completes a pair.
use Rattle.std.proofs.Common.{◌≡◌, ◌+◌, ◌-◌, length}
use Rattle.base.specs.Search.{first_from}
use Rattle.blocks.proofs.Refusing.InOrder.{OverNumbered}
use Rattle.blocks.specs.Entries.{entries_of}
use Rattle.clashes.specs.Promise.{apart_below}
use Rattle.clashes.specs.code.Given.{GivenTo}
use Rattle.clashes.proofs.clash.clash_within.Given as goal

abbrev pub invariant-loop-before : goal.invariant-loop-before
invariant-loop-before g l = record {
  goes : (goal.iterator-loop-before g).can_next l.before-iterator;
  ends : (goal.iterator-loop-before g).is_finite l.before-iterator;
  over : OverNumbered l.s l.n l.initial.before-iterator;
  size : length l.given ≡ g.row.MOST;
  given : GivenTo l.exclusions.pairs.now (entries_of l.s) (length l.yielded) l.given;
  apart : first_from (apart_below g.row.MOST l.exclusions.pairs.now (entries_of l.s)) 1 l.n
      ≡ first_from (apart_below g.row.MOST l.exclusions.pairs.now (entries_of l.s)) (length l.yielded + 1) (l.n + 1 - (length l.yielded + 1));
}
