-- `write_out` meets its contract.
use Rattle.std.proofs.Common.{◌∙◌, ◌*◌, ◌≤◌, ap, sym, refl, ℕ, length, arith}
use lib.ListN.{length-replicate}
use lib.Seq.{length-take-le}
use Rattle.drafts.proofs.DraftedLaws.{front-entries, front-length}
use Rattle.drafts.proofs.SoundLaws.{counted, few-entries, long-enough}
use Rattle.drafts.proofs.WriteLaws.{writes-all, writes-none, writes-short}
use Rattle.drafts.specs.Memory.{entries_at}
use Rattle.desk.proofs.writing_out.write_out.Goals as goal

pub returns-then-not-is_desk : goal.returns-then-not-is_desk
returns-then-not-is_desk c = writes-none c.args.desk c.args.memory.now c.args.out.now (sym c.is_desk.ensures ∙ c.if-not-is_desk.true) refl refl

pub returns-then-out-bytes_for : goal.returns-then-out-bytes_for
returns-then-out-bytes_for c =
    writes-short c.args.desk c.args.memory.now c.args.out.now (sym c.is_desk.ensures ∙ c.if-not-is_desk.false) c.bytes_for.ensures.0 c.if-out-bytes_for.true refl refl

pub slice_bounds-as_chunks-end : goal.slice_bounds-as_chunks-end
slice_bounds-as_chunks-end c =
    let h = sym c.is_desk.ensures ∙ c.if-not-is_desk.false in
    let few = few-entries c.args.desk (counted c.args.desk c.args.memory.now h) in
    let long = long-enough c.args.desk c.args.memory.now h in
    sym (length-take-le (8 * c.from-count.result) c.args.memory.now (omega (arith, few, long, c.from-count.ensures)))

pub pack_rows-requires : goal.pack_rows-requires
pack_rows-requires c =
    let h = sym c.is_desk.ensures ∙ c.if-not-is_desk.false in
    let few = few-entries c.args.desk (counted c.args.desk c.args.memory.now h) in
    let long = long-enough c.args.desk c.args.memory.now h in
    let fits : 8 * c.from-count.result ≤ length c.args.memory.now = omega (arith, few, long, c.from-count.ensures) in
    let n = front-length c.args.memory.now c.from-count.result fits c.as_chunks.ensures.front in
    omega (arith, n, few, c.from-count.ensures)

pub returns : goal.returns
returns c =
    let h = sym c.is_desk.ensures ∙ c.if-not-is_desk.false in
    let few = few-entries c.args.desk (counted c.args.desk c.args.memory.now h) in
    let long = long-enough c.args.desk c.args.memory.now h in
    let fits : 8 * c.from-count.result ≤ length c.args.memory.now = omega (arith, few, long, c.from-count.ensures) in
    let same = front-entries c.args.memory.now c.from-count.result fits c.as_chunks.ensures.front ∙ ap (entries_at c.args.memory.now 0) c.from-count.ensures in
    writes-all c.args.desk c.args.memory.now c.args.out.now _ c.as_chunks.result.0.now c.from-count.result h c.bytes_for.ensures.0
    (omega (arith, c.if-out-bytes_for.false)) (λ i. omega (arith, (c.type_inv.memory i).fits)) (length-replicate {A = ℕ} 1008 0) same c.pack_rows.ensures
    c.from-count.ensures refl c.write_entries.ensures.1
