-- `read` meets its contract: what the blocks that are read have.
use Rattle.std.proofs.Common.{◌≡◌, ◌∙◌, List, ℕ, ap, refl, sym, arith}
use Rattle.std.proofs.lemmas.Result.{err_from_is_err_and}
use Rattle.blocks.specs.Faults.{Fault, first, frame_faults, length_wrong}
use Rattle.blocks.specs.Frame.{plain, total_in}
use Rattle.blocks.specs.Reading.{Reading, answer}
use Rattle.blocks.specs.declared.Schema.TheVariants.{Specimen}
use Rattle.reading.proofs.BlocksRead.{blocks-whole, plain_faults}
use Rattle.clashes.proofs.sound.SoundBlocks.read.Goals as goal

-- a specimen's limit is 32 blocks
as-sent : (i : ℕ) (s : List ℕ) {r : Reading} → r ≡ answer i (total_in plain s) (first (plain_faults Specimen s))
    → answer i (total_in plain s) (first (frame_faults plain 32 s)) ≡ r
unfolding length_wrong
as-sent i s e = sym e

pub returns-in_err-read_blocks-clause-refused : goal.returns-in_err-read_blocks-clause-refused
returns-in_err-read_blocks-clause-refused c =
    let p = err_from_is_err_and c.from_residual.result c.from_residual.ensures.1 in
    rw (p.1, p.2) (as-sent _ _ c.read_blocks.ensures ∙ c.in_err-read_blocks.was)

pub invariant_of-result : goal.invariant_of-result
invariant_of-result c =
    let w = blocks-whole _ _ _ c.read_blocks.ensures c.in_ok-read_blocks.was in
    let same = c.from-total.ensures in
    record { counted = same ∙ w.0; few = omega (arith, same, w.3); whole = rw same w.2 }

pub returns-clause-accepted : goal.returns-clause-accepted
returns-clause-accepted c = (as-sent _ _ c.read_blocks.ensures ∙ c.in_ok-read_blocks.was ∙ rw c.from-total.ensures, refl)
