-- `entry_fault` meets its contract, number by number.
use Rattle.std.proofs.Common.{◌≡◌, ◌∙◌, ◌+◌, ℕ, ap, not, sym, arith}
use Rattle.base.proofs.Tests.{confirmed, refuted}
use Rattle.blocks.specs.declared.Cause.{Cause}
use Rattle.std.specs.Prelude.{Option, None, Some}
use Rattle.delivered.proofs.RowLaws.{refused-double, refused-form, refused-item, refused-not}
use Rattle.delivered.proofs.single.entry_fault.Goals as goal

-- a cause is one
some-none : {k : Cause} {X : Type 0} → Some k ≡ None → X
some-none e = let z : ◌≡◌ {A = ℕ} 0 1 = cc in absurd (omega arith)

pub returns-then-not-form_ok-clause-noted : goal.returns-then-not-form_ok-clause-noted
returns-then-not-form_ok-clause-noted g c =
    let p = refuted c.form_ok.ensures (ap not c.if-not-form_ok.true) in
    λ es n at N. (refused-form c.args.total es (n + 1) at p, λ z. some-none z)

pub returns-then-not-items_ok-clause-noted : goal.returns-then-not-items_ok-clause-noted
returns-then-not-items_ok-clause-noted g c =
    let p = confirmed c.form_ok.ensures (ap not c.if-not-form_ok.false) in
    let q = refuted c.items_ok.ensures (ap not c.if-not-items_ok.true) in
    λ es n at N. (refused-item c.args.total es (n + 1) at p q, λ z. some-none z)

pub returns-then-leads_on-clause-noted : goal.returns-then-leads_on-clause-noted
returns-then-leads_on-clause-noted g c =
    let p = confirmed c.form_ok.ensures (ap not c.if-not-form_ok.false) in
    let q = confirmed c.items_ok.ensures (ap not c.if-not-items_ok.false) in
    λ es n at N.
    let L = c.leads_on.ensures.noted es n at N in
    (refused-double c.args.total es (n + 1) at p q (sym L.0 ∙ c.if-leads_on.true), λ z. some-none z)

pub returns-clause-noted : goal.returns-clause-noted
returns-clause-noted g c =
    let p = confirmed c.form_ok.ensures (ap not c.if-not-form_ok.false) in
    let q = confirmed c.items_ok.ensures (ap not c.if-not-items_ok.false) in
    λ es n at N.
    let L = c.leads_on.ensures.noted es n at N in
    (refused-not c.args.total es (n + 1) at p q (sym L.0 ∙ c.if-leads_on.false), λ z. L.1 c.if-leads_on.false)
