-- `form_rows` meets its contract: the first rows of the table are lent for a shorter input.
use Rattle.normal.proofs.NormalWritten.{held-front}
use Rattle.normal.proofs.output.form_rows.Goals as goal

pub returns-then-description-le-BLOCK : goal.returns-then-description-le-BLOCK
returns-then-description-le-BLOCK c =
    let r = c.rows_sized.ensures in
    (r.0, held-front c.args.pairs.now c.args.description.now _ _ _ r.1)

pub returns-then-description-le2048 : goal.returns-then-description-le2048
returns-then-description-le2048 c =
    let r = c.rows_sized-then-description-le2048.ensures in
    (r.0, held-front c.args.pairs.now c.args.description.now _ _ _ r.1)
