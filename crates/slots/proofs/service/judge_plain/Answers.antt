-- `judge_plain` meets its contract: refused by its blocks, or judged by its entries; nothing but read where nothing fits the other description.
use native.Mathlib.Omega.{arith}
use Rattle.blocks.specs.declared.Schema.TheVariants.{Named}
use Rattle.reading.proofs.BlocksRead.{blocks-accepted, blocks-refused, blocks-whole}
use Rattle.slots.proofs.service.JudgedLaws.{plain-broken, plain-refused}
use Rattle.std.proofs.lemmas.Result.{err_from_is_err_and}
use Rattle.slots.proofs.service.judge_plain.Goals as goal

pub returns-then-supplier : goal.returns-then-supplier
returns-then-supplier c =
    λ s H. plain-broken c.args.supplier.marked.exclusions.pairs.now s c.args.input c.args.d.now c.args.supplier.ruled.lawful H c.if-supplier.true c.judge_broken.ensures

pub judge_entries-requires : goal.judge_entries-requires
judge_entries-requires c =
    let r = c.read_blocks.ensures in
    let q = c.in_ok-total.was in
    let w = blocks-whole (Named 0) c.args.input c.args.d.now r q in
    (c.if-supplier.false, blocks-accepted (Named 0) c.args.input c.args.d.now r q, w.0, omega (arith, w.1), w.2)

pub returns-in_err-total : goal.returns-in_err-total
returns-in_err-total c =
    let p = err_from_is_err_and c.from_residual.result c.from_residual.ensures.1 in
    let r = c.in_err-total.field-0.0 in
    rw (p.1, p.2) (λ s H. plain-refused c.args.supplier.marked.exclusions.pairs.now s c.args.input c.args.d.now (blocks-refused (Named 0) c.args.input c.args.d.now c.read_blocks.ensures {k = r.cause} {j = r.input} {p = r.place} c.in_err-total.was))
