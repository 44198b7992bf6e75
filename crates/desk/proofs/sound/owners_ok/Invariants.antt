-- `owners_ok` meets its contract: the table holds the levels of the entries passed, and what the whole search finds is what that of the rest
-- finds.
use Rattle.std.proofs.Common.{◌≡◌, ◌+◌, ◌-◌, length}
use Rattle.blocks.specs.Faults.{first}
use Rattle.blocks.specs.code.ReadingSteps.{Levels, rule_faults}
use Rattle.blocks.specs.declared.Schema.TheVariants.{Description}
use Rattle.drafts.proofs.DraftedLaws.{entries_in}
use Rattle.desk.proofs.sound.owners_ok.Given as goal

abbrev pub invariant-loop-before : goal.invariant-loop-before
invariant-loop-before l = record {
  levels : Levels Description (entries_in l.rows) l.level (l.before + 1);
  rest : first (rule_faults Description (entries_in l.rows) 1 (length l.rows))
      ≡ first (rule_faults Description (entries_in l.rows) (l.before + 1) (length l.rows + 1 - (l.before + 1)));
}
