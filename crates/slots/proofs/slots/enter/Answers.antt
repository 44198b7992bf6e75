-- `enter` meets its contract: the slot is found, or takes the free cell.
use Rattle.std.proofs.Common.{◌≤◌, ◌+◌, ◌*◌, length, refl, arith}
use Rattle.base.proofs.ChainLaws.{last_on}
use Rattle.slots.proofs.slots.EnterLaws.{enter-found, enter-new, found-there}
use Rattle.slots.proofs.slots.KeyBounds.{searchable}
use Rattle.slots.proofs.slots.TableLaws.{bounds-under, low-bound}
use Rattle.slots.specs.code.Tables.{keys_of}
use Rattle.slots.proofs.slots.enter.Goals as goal

pub invariant_of-slots-clause-kept : goal.invariant_of-slots-clause-kept
invariant_of-slots-clause-kept g c = searchable c.requires.0

pub returns-then-s-ne0 : goal.returns-then-s-ne0
returns-then-s-ne0 g c =
    let K = c.requires.0 in
    let E = c.cell_for-c.ensures.0 in
    let f = last_on (keys_of c.args.table.now) _ _ (found-there K E c.from-s.ensures) in (
      omega (arith, f.bound),
      λ v b n small k. enter-found K v b n _ _ small (low-bound c.args.bounds) c.requires.6 k E c.from-s.ensures c.requires.4 c.if-s-ne0.true c.tighten.ensures,
    )

pub returns : goal.returns
returns g c =
    let more : g.row.BUCKETS + 2 * (c.args.used + 1) + 2 ≤ length c.args.cells.now = c.requires.3 in (
      omega arith,
      λ v b n small k. enter-new c.requires.0 v b n _ _ small (low-bound c.args.bounds) c.requires.6 k c.cell_for-c.ensures.0 c.from-s.ensures c.requires.4 c.requires.2 more c.if-s-ne0.false
          (rw (bounds-under c.args.key c.args.bounds c.requires.5) refl) refl,
    )
