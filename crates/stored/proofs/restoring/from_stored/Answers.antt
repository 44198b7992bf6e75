-- `from_stored` meets its contract: refused by the blocks, or restored with a table that has room.
use Rattle.std.proofs.Common.{◌∙◌, sym, arith}
use Rattle.std.proofs.lemmas.Result.{err_from_is_err_and}
use Rattle.stored.proofs.AnswerLaws.{blocks-refused, blocks-there, from-refused}
use Rattle.stored.proofs.restoring.from_stored.Goals as goal

pub returns-in_err-count : goal.returns-in_err-count
returns-in_err-count c =
    let p = err_from_is_err_and c.from_residual.result c.from_residual.ensures.1 in
    rw (p.1, p.2) (from-refused c.args.s.now c.args.out.now (blocks-refused c.args.s.now c.read_stored_blocks.ensures c.in_err-count.was))

pub restore_in-requires : goal.restore_in-requires
restore_in-requires c = (omega arith, omega (arith, c.if-count-le84.true), sym c.read_stored_blocks.ensures ∙ c.in_ok-count.was)

pub restore_in-requires-then-count-le336 : goal.restore_in-requires-then-count-le336
restore_in-requires-then-count-le336 c = (omega arith, omega (arith, c.if-count-le336.true), sym c.read_stored_blocks.ensures ∙ c.in_ok-count.was)

pub restore_in-requires-2 : goal.restore_in-requires-2
restore_in-requires-2 c =
    let B = blocks-there c.args.s.now c.read_stored_blocks.ensures c.in_ok-count.was in
    (omega arith, omega (arith, B.1, B.0), sym c.read_stored_blocks.ensures ∙ c.in_ok-count.was)
