-- `check_entries` meets its contract, schema by schema.
use Rattle.std.proofs.Common.{◌≡◌, ◌∙◌, ap}
use mathlib.Core.Logic.{⊎_elim}
use Rattle.blocks.specs.Entries.{entries_of}
use Rattle.blocks.specs.Faults.{entry_faults, first}
use Rattle.blocks.specs.code.ReadingSteps.{rule_faults}
use Rattle.blocks.specs.Reading.{answer}
use Rattle.blocks.proofs.Refusing.SingleFirst.{description-first, named-first}
use Rattle.reading.proofs.single.check_entries.Goals as goal

pub returns-in-Description : goal.returns-in-Description
returns-in-Description c =
    let same : first (rule_faults c.args.schema (entries_of c.args.s.now) 1 c.args.total) ≡ first (entry_faults c.args.schema (entries_of c.args.s.now) 1 c.args.total) =
    ⊎_elim (λ e. rw e (description-first _ _)) (λ e. rw e.1 (named-first _ _ _)) c.in-Description.is in
    c.first_rule_fault.ensures ∙ ap (answer c.args.input tt) same

pub returns-in-Specimen : goal.returns-in-Specimen
returns-in-Specimen c = rw c.in-Specimen.is c.specimen_fault.ensures
