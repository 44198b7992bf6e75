-- `write_entries` meets its contract: all 8 bytes of each packed entry are written.
use Rattle.std.proofs.Common.{◌∙◌, ap, List, ℕ}
use Rattle.blocks.specs.Encoding.{bytes_written, framed_written, written}
use Rattle.blocks.specs.Frame.{plain}
use Rattle.writing.proofs.WritingLaws.{whole-row}
use Rattle.writing.proofs.writer.write_entries.Goals as goal

pub returns : goal.returns
unfolding bytes_written written
returns c =
    let a = c.args in
    (c.write_framed.ensures.0, c.write_framed.ensures.1 ∙ ap (λ (row : ℕ → List ℕ). framed_written plain row 2016 a.out.now a.rows.now a.count) whole-row)
