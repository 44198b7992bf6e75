-- `fold` meets its contract: what is still to be tried leads to the set that trying all leads to.
use Rattle.std.specs.Prelude.{List, ◌≤◌, ◌+◌, ◌*◌}
use Rattle.blocks.specs.Entries.{entries_of}
use Rattle.blocks.specs.declared.Entry.{Entry}
use Rattle.earning.specs.code.Tried.{Grows, Listed, Open, Turned, enough, set_of}
use Rattle.pairs.specs.Pairs.{under}
use Rattle.earning.proofs.trying.Trial.fold.Given as goal

abbrev pub invariant-loop-at : goal.invariant-loop-at
invariant-loop-at l = record {
  some : 1 ≤ l.at.run;
  most : l.at.run ≤ 2016;
  left : l.at.to ≤ l.tried.count;
  goes : (pre es : List Entry) → Listed pre es l.tried.entries.now l.tried.before l.tried.count
      → Grows (enough (under l.service.exclusions.pairs.now) pre es (entries_of l.service.bytes.now)) → Open es l.tried.count (set_of l.initial.kept)
      → Turned (enough (under l.service.exclusions.pairs.now) pre es (entries_of l.service.bytes.now)) es l.tried.count (set_of l.initial.kept) l.at.to (set_of l.kept);
}

abbrev pub decreases-loop-at : goal.decreases-loop-at
decreases-loop-at l = 4096 * l.at.to + l.at.run
