-- `read` meets its contract, one law for each way through it.
use Rattle.std.proofs.Common.{◌≡◌, ◌∙◌, ℕ, Ok, ap, refl, sym, arith}
use Rattle.std.proofs.lemmas.Result.{err_from_is_err_and}
use Rattle.clashes.proofs.Ways.{list-few}
use Rattle.delivered.proofs.ReadingLaws.{clash-refused, entries-refused, frames-refused, list-refused, none-refused, owners-below, taken, total-refused}
use Rattle.delivered.specs.Reading.{delivered_reading}
use Rattle.delivered.proofs.reader.Delivered.read.Goals.{After-total}
use Rattle.delivered.proofs.reader.Delivered.read.Goals as goal

pub returns-in_err-read_pairs-clause-refused : goal.returns-in_err-read_pairs-clause-refused
returns-in_err-read_pairs-clause-refused c =
    let p = err_from_is_err_and c.from_residual.result c.from_residual.ensures.1 in
    let r = c.in_err-read_pairs.field-0.0 in
    rw (p.1, p.2) (list-refused _ _ _ {k = r.cause} {i = r.input} {p = r.place} (sym c.read_pairs.ensures ∙ c.in_err-read_pairs.was))

pub returns-in_err-check_total-clause-refused : goal.returns-in_err-check_total-clause-refused
returns-in_err-check_total-clause-refused c =
    let p = err_from_is_err_and c.from_residual-in_err-check_total.result c.from_residual-in_err-check_total.ensures.1 in
    let r = c.in_err-check_total.field-0.0 in
    rw (p.1, p.2)
    (total-refused _ _ _ (sym c.read_pairs.ensures ∙ c.in_ok-read_pairs.was) {k = r.cause} {i = r.input} {p = r.place} (sym c.check_total.ensures ∙ c.in_err-check_total.was))

pub returns-in_err-blocks-clause-refused : goal.returns-in_err-blocks-clause-refused
returns-in_err-blocks-clause-refused c =
    let p = err_from_is_err_and c.from_residual-in_err-blocks.result c.from_residual-in_err-blocks.ensures.1 in
    let r = c.in_err-blocks.field-0.0 in
    rw (p.1, p.2)
    (frames-refused _ _ _ (sym c.read_pairs.ensures ∙ c.in_ok-read_pairs.was) (sym c.check_total.ensures ∙ c.in_ok-check_total.was)
    {k = r.cause} {i = r.input} {p = r.place} (rw c.in_err-blocks.was at c.read.ensures.refused))

pub returns-in_err-check_entries-clause-refused : goal.returns-in_err-check_entries-clause-refused
returns-in_err-check_entries-clause-refused c =
    let p = err_from_is_err_and c.from_residual-in_err-check_entries.result c.from_residual-in_err-check_entries.ensures.1 in
    let r = c.in_err-check_entries.field-0.0 in
    let b = rw c.in_ok-blocks.was at c.read.ensures.accepted in
    let f = rw b.1 at c.check_entries.ensures in
    rw (p.1, p.2)
    (entries-refused _ _ _ (sym c.read_pairs.ensures ∙ c.in_ok-read_pairs.was) (sym c.check_total.ensures ∙ c.in_ok-check_total.was) b.0
    {k = r.cause} {i = r.input} {p = r.place} (sym f ∙ c.in_err-check_entries.was))

pub check_pairs-requires : goal.check_pairs-requires
check_pairs-requires c =
    let b = rw c.in_ok-blocks.was at c.read.ensures.accepted in
    let f = rw b.1 at c.check_entries.ensures in (
      list-few _ (sym c.read_pairs.ensures ∙ c.in_ok-read_pairs.was),
      rw b.1 (owners-below _ _ (sym c.check_total.ensures ∙ c.in_ok-check_total.was) (sym f ∙ c.in_ok-check_entries.was)),
    )

pub returns-in_err-check_pairs-clause-refused : goal.returns-in_err-check_pairs-clause-refused
returns-in_err-check_pairs-clause-refused c =
    let p = err_from_is_err_and c.from_residual-in_err-check_pairs.result c.from_residual-in_err-check_pairs.ensures.1 in
    let r = c.in_err-check_pairs.field-0.0 in
    let b = rw c.in_ok-blocks.was at c.read.ensures.accepted in
    let f = rw b.1 at c.check_entries.ensures in
    let h = rw b.1 at c.check_pairs.ensures in
    rw (p.1, p.2)
    (clash-refused _ _ _ (sym c.read_pairs.ensures ∙ c.in_ok-read_pairs.was) (sym c.check_total.ensures ∙ c.in_ok-check_total.was) b.0 (sym f ∙ c.in_ok-check_entries.was)
    {k = r.cause} {i = r.input} {p = r.place} (sym h ∙ c.in_err-check_pairs.was))

-- nothing is refused
accepted : (c : After-total) → delivered_reading c.args.pairs.now c.args.total c.args.s.now ≡ Ok c.total.result
accepted c =
    let x = c.in_ok-blocks.blocks in
    let b = rw c.in_ok-blocks.was at c.read.ensures.accepted in
    let f = rw b.1 at c.check_entries.ensures in
    let h = rw b.1 at c.check_pairs.ensures in
    none-refused _ _ _ (sym c.read_pairs.ensures ∙ c.in_ok-read_pairs.was) (sym c.check_total.ensures ∙ c.in_ok-check_total.was) b.0 (sym f ∙ c.in_ok-check_entries.was)
    (sym h ∙ c.in_ok-check_pairs.was)
    ∙ ap (λ (n : ℕ). Ok n) (x.counted ∙ sym c.total.ensures)

pub invariant_of-result : goal.invariant_of-result
invariant_of-result c =
    let x = c.in_ok-blocks.blocks in
    let b = rw c.in_ok-blocks.was at c.read.ensures.accepted in
    let t = taken _ _ _ (accepted (goal.at.invariant_of-result c).After-total) in
    let n : c.total.result ≡ x.total = c.total.ensures ∙ sym x.counted in
    record { counted = t.count; few = omega (arith, n, x.few); whole = rw n (rw b.1 at x.whole); some = t.some; most = t.most; legal = t.legal }

pub returns-clause-accepted : goal.returns-clause-accepted
returns-clause-accepted c = (accepted (goal.at.returns-clause-accepted c).After-total, refl, refl)
