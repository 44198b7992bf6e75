-- `put_block` meets its contract: its stores are the block.
use Rattle.std.proofs.Common.{arith, map, length, ◌≡◌, ◌*◌, ◌+◌}
use Rattle.std.proofs.lemmas.List.{length-map}
use Rattle.blocks.proofs.Format.Lawful.{framed-lawful}
use Rattle.blocks.proofs.Refusing.BlockLaws.{used-bytes}
use Rattle.blocks.specs.Encoding.{row_bytes_of}
use Rattle.writing.proofs.WritingLaws.{block-done, rows-packed, zeros-stored}
use Rattle.writing.proofs.writer.put_block.Goals as goal

pub returns : goal.returns
returns g c =
    let w = g.row.WIDTH in
    let p = c.requires in
    let rows = c.args.rows.now in
    let fits = used-bytes w p.0 p.5 in
    let zeros = zeros-stored c.put_rows.new.out (4 + w * length rows) 508 (omega (arith, fits)) (omega arith) (c.fill.ensures.after (λ y e. e)) in
    let n : length (map (row_bytes_of w) rows) ≡ length rows = length-map _ _ in
    block-done (framed-lawful w g.row.ROOM p.0) c.args.i (map (row_bytes_of w) rows) _ (rows-packed w p.1 rows) (omega (arith, p.5)) p.3
    c.put_word.ensures (rw n c.put_word-2.ensures) c.put_rows.ensures (rw n zeros) c.block_second-second.ensures
    c.put_word-3.ensures c.block_check-check.ensures c.put_word-4.ensures
