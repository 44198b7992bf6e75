-- `normal_rows` meets its contract: one entry of kind 6 where the top is impossible, else the rows of the runs.
use mathlib.Core.List.{[]}
use mathlib.Core.Path.{refl}
use native.Mathlib.Omega.{arith}
use Rattle.base.proofs.Tests.{ne_eqb}
use Rattle.blocks.specs.Entries.{packed}
use Rattle.logic.proofs.TreeRows.FillLaws.{filled-anew, filled-one}
use Rattle.normal.proofs.tables.normal_rows.Goals as goal

pub returns-then-bad-ne0 : goal.returns-then-bad-ne0
unfolding packed
returns-then-bad-ne0 c =
    (rw (ne_eqb c.if-bad-ne0.true) (filled-anew {a = c.args.work.now.rows.now} [] (filled-one refl (omega (arith, c.requires.3.some-row)) c.from.ensures)), refl)
