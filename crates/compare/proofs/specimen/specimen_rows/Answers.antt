-- `specimen_rows` meets its contract: the slots are put on their chains, then the rows are written.
use mathlib.Core.Path.{refl}
use Rattle.normal.proofs.SlotsChained.{slots-chained}
use Rattle.compare.proofs.specimen.specimen_rows.Goals as goal

pub invariant_of-slots : goal.invariant_of-slots
invariant_of-slots c =
    let q = c.chain_slots.ensures in
    record {
      stood = c.requires.0;
      chained =
          slots-chained c.args.work.now.last.now c.args.work.now.before.now c.requires.0.some' c.requires.0.lower c.requires.2 c.requires.3 c.requires.4 refl q.0 q.1;
    }
