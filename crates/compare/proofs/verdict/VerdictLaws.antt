-- The answers without a specimen.
-- Assumes nothing.
use Prim.Native.Nat.{◌+◌, ◌<◌, ◌≤◌, ℕ}
use lib.ListN.{length}
use mathlib.Core.List.{List}
use mathlib.Core.Path.{◌∙◌, ◌≡◌, ap, sym}
use Rattle.blocks.specs.Entries.{entries_of}
use Rattle.compare.proofs.AnswerLaws.{compared, too_short, verdict-contained}
use Rattle.compare.proofs.PromiseKept.{refused-output}
use Rattle.compare.specs.Answer.{compare_under, output_after, output_under}
use Rattle.compare.specs.Promise.{Comparable}
use Rattle.compare.specs.code.Prepared.{Agreed}
use Rattle.std.specs.Prelude.{None, Ok}
use Rattle.logic.specs.Background.{Background}
use Rattle.slots.specs.code.Standing.{BothRead}
use Rattle.blocks.specs.Refusals.{refused}
use Rattle.blocks.specs.declared.Cause.TheVariants.{Room}

module _ (b : Background) (c d out : List ℕ) (r : BothRead c d) where
  -- the output is too short
  pub read_short : length out < length c + length d → (refused Room 0 0 ≡ compare_under b c d out) × (out ≡ output_under b c d out)
  read_short l = let e = too_short b c d out r.first_read r.second-read l in (sym e, sym (refused-output b c d out e))

-- it is not, and the two are compared
pub read-comparable : (c d out : List ℕ) → BothRead c d → length c + length d ≤ length out → Comparable c d out
read-comparable c d out r l =
    record { first = r.first; second = r.second; first_read = r.first_read; second-read = r.second-read; room = l }

-- all hold
pub agreed-contained : (b : Background) (c d out : List ℕ) → Agreed b c d → length c + length d ≤ length out → (Ok None ≡ compare_under b c d out) × (out ≡ output_under b c d out)
unfolding output_under
agreed-contained b c d out a l =
    let e = compared b c d out (read-comparable c d out a.read l) ∙ verdict-contained b (entries_of c) (entries_of d) a.none in
    (sym e, sym (ap (output_after b c d out) e))
