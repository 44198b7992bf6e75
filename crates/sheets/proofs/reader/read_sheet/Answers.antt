-- `read_sheet` meets its contract: the blocks, then the entries.
use Rattle.std.proofs.Common.{◌∙◌, sym, arith}
use Rattle.std.proofs.lemmas.Result.{err_from_is_err_and}
use Rattle.blocks.specs.declared.Schema.TheVariants.{Description}
use Rattle.reading.proofs.BlocksRead.{blocks-whole}
use Rattle.sheets.proofs.SheetBlocks.{sheet-accepted, sheet-refused}
use Rattle.sheets.proofs.reader.read_sheet.Goals as goal

pub read_entries-requires : goal.read_entries-requires
read_entries-requires c =
    let w = blocks-whole Description 1 c.args.s.now c.read_blocks.ensures c.in_ok-total.was in
    (w.0, omega (arith, w.1), w.2)

pub returns-in_err-total : goal.returns-in_err-total
returns-in_err-total c =
    let p = err_from_is_err_and c.from_residual.result c.from_residual.ensures.1 in
    let r = c.in_err-total.field-0.0 in
    rw (p.1, p.2) (sym (sheet-refused _ c.read_blocks.ensures {k = r.cause} {j = r.input} {p = r.place} c.in_err-total.was))

pub returns : goal.returns
returns c = c.read_entries.ensures ∙ sym (sheet-accepted _ c.read_blocks.ensures c.in_ok-total.was)
