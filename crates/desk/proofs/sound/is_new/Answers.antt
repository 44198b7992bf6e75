-- `is_new` meets its contract.
use Rattle.std.proofs.Common.{◌∙◌, eqb, get_or, not, sym, ℕ, arith}
use Rattle.base.proofs.RangeLaws.{all-no, all_end, all_yes}
use Rattle.base.proofs.Tests.{eq-eqb, ne_eqb, not-to-false, not-to-true}
use Rattle.desk.proofs.sound.is_new.Goals as goal

pub returns-then-names-i : goal.returns-then-names-i
returns-then-names-i c =
    let l = c.loop-i in
    let names = c.args.names.now in
    sym (l.invariant ∙ all-no (λ (i : ℕ). not (eqb (get_or names i 0) (get_or names c.args.j 0))) l.i c.args.j (omega (arith, c.loop-i-test.true)) (not-to-false (eq-eqb c.if-names-i.true)))

pub loop-i-preserved : goal.loop-i-preserved
loop-i-preserved c =
    let l = c.loop-i in
    let names = c.args.names.now in
    l.invariant ∙ all_yes (λ (i : ℕ). not (eqb (get_or names i 0) (get_or names c.args.j 0))) l.i c.args.j (omega (arith, c.loop-i-test.true)) (not-to-true (ne_eqb c.if-names-i.false))

pub returns : goal.returns
returns c =
    let l = c.loop-i in
    let names = c.args.names.now in
    sym (l.invariant ∙ all_end (λ (i : ℕ). not (eqb (get_or names i 0) (get_or names c.args.j 0))) l.i c.args.j (omega (arith, c.loop-i-test.false)))
