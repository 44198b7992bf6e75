-- `check_rest` meets its contract: what a search of those that were left finds is what one of those left now does.
use Rattle.std.proofs.Common.{◌≡◌, ◌+◌, ℕ, List, length}
use Rattle.std.specs.Iterator.Adapters.{enumerate_count}
use Rattle.blocks.specs.Entries.{entries_of}
use Rattle.blocks.specs.code.ReadingSteps.{Levels}
use Rattle.blocks.specs.declared.Schema.TheVariants.{Named}
use Rattle.slots.proofs.service.LeftLaws.{Resting}
use Rattle.slots.specs.code.Pass.{Left, left_in}
use Rattle.slots.proofs.service.check_rest.Given as goal

abbrev pub invariant-loop-before : goal.invariant-loop-before
invariant-loop-before l = record {
  goes : (goal.iterator-loop-before).can_next l.before-iterator;
  ends : (goal.iterator-loop-before).is_finite l.before-iterator;
  room : length l.level ≡ length l.initial.level;
  all : enumerate_count l.before-iterator + length (left_in l.before-iterator)
      ≡ enumerate_count l.initial.before-iterator + length (left_in l.initial.before-iterator);
  rests : (d : List ℕ) → (total : ℕ) → Left d total l.initial.before-iterator
      → Levels (Named 0) (entries_of d) l.initial.level (enumerate_count l.initial.before-iterator + 1)
      → Resting d total (enumerate_count l.initial.before-iterator) l.before-iterator l.level;
}
