-- `is_against` meets its contract: what is written is the description that no item fits.
use Prim.Native.Nat.{ℕ}
use lib.ListN.{length-replicate, replicate}
use mathlib.Core.Path.{◌∙◌, ◌≡◌}
use Rattle.blocks.specs.Encoding.{encode}
use Rattle.missing.proofs.Impossible.{impossible-counted, impossible-read, impossible-written, together-impossible}
use Rattle.missing.specs.Answer.{impossible}
use Rattle.missing.proofs.asking.is_against.Goals.{After-write_entries}
use Rattle.missing.proofs.asking.is_against.Goals as goal

block : (c : After-write_entries) → c.write_entries.new.out ≡ encode impossible
block c = impossible-written (replicate 512 0) (length-replicate {A = ℕ} 512 0) c.from.ensures c.write_entries.ensures.1

pub invariant_of-service : goal.invariant_of-service
invariant_of-service c =
    let w = (goal.at.invariant_of-service c).After-write_entries in
    record { listed = c.requires.0; read = impossible-read (block w); counted = impossible-counted (block w) }

pub returns : goal.returns
returns c =
    let w = (goal.at.returns c).After-write_entries in
    c.together.ensures ∙ together-impossible c.args.pairs.now c.args.c.bytes.now c.args.d.bytes.now (block w)
