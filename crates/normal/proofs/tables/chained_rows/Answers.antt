-- `chained_rows` meets its contract: the slots are put on their chains, and the rows are those of their runs.
use mathlib.Core.Path.{refl}
use native.Mathlib.Omega.{arith}
use Rattle.normal.proofs.SlotsChained.{slots-chained}
use Rattle.normal.proofs.tables.chained_rows.Goals as goal

pub invariant_of-slots : goal.invariant_of-slots
invariant_of-slots c =
    let q = c.chain_slots.ensures in
    let r = c.requires.0 in
    let l = c.requires.2 in
    record {
      runnable = r;
      chained =
          slots-chained c.args.work.now.last.now c.args.work.now.before.now r.some' r.lower l.cleared (omega (arith, l.lasts, r.some'))
          (omega (arith, l.befores, r.some')) refl q.0 q.1;
      covered = c.requires.1;
    }
