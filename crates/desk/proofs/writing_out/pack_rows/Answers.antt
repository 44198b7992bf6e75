-- `pack_rows` meets its contract.
use Rattle.std.proofs.Common.{◌∙◌, ap, refl}
use Rattle.base.proofs.StoresLaws.{stored-none}
use Rattle.blocks.specs.Entries.{packed}
use Rattle.drafts.proofs.StoreLaws.{rows-all, rows-step}
use Rattle.desk.proofs.writing_out.pack_rows.Goals as goal

pub loop-j-init : goal.loop-j-init
loop-j-init c = stored-none c.args.rows.now 0

pub loop-j-preserved : goal.loop-j-preserved
loop-j-preserved c =
    let l = c.loop-j in
    rows-step c.args.bytes.now c.args.rows.now l.j c.loop-j-test.true l.invariant (c.pack.ensures ∙ ap packed c.from.ensures) refl

pub returns : goal.returns
returns c = rows-all c.args.bytes.now c.args.rows.now c.loop-j-test.false c.loop-j.invariant
