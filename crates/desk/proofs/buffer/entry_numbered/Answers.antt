-- `entry_numbered` meets its contract.
use Rattle.std.proofs.Common.{◌∙◌, ap, sym}
use Rattle.blocks.proofs.Format.EntryBytes.{entry_alone}
use Rattle.blocks.specs.Entries.{entry_from}
use Rattle.drafts.specs.Buffer.{entry_numbered}
use Rattle.writing.proofs.WritingLaws.{part-le, whole-row}
use Rattle.desk.proofs.buffer.entry_numbered.Goals as goal

pub returns : goal.returns
unfolding entry_numbered
returns c =
    c.from.ensures ∙ sym (entry_alone _ 0)
    ∙ ap (λ b. entry_from b 0) (part-le 8 c.ranges.row.fits c.to_le_bytes.ensures ∙ ap (λ f. f c.args.row) whole-row)
