-- `place_in` meets its contract.
use Rattle.std.proofs.Common.{◌≡◌, ◌∙◌, sym, arith}
use Rattle.base.proofs.Tests.{eq-eqb, ne_eqb}
use Rattle.drafts.proofs.PlaceLaws.{place-end, place-here, place-later, place-start}
use Rattle.desk.proofs.calls.place_in.Goals as goal

pub loop-i-init : goal.loop-i-init
loop-i-init c = place-start c.args.s c.args.desk.names c.args.desk.stands

pub returns-then-s-desk : goal.returns-then-s-desk
returns-then-s-desk c =
    let l = c.loop-i in (
      sym (l.invariant ∙ place-here c.args.s c.args.desk.names l.i c.args.desk.stands (omega (arith, c.loop-i-test.true)) (eq-eqb c.if-s-desk.true)),
      omega (arith, c.loop-i-test.true),
    )

pub loop-i-preserved : goal.loop-i-preserved
loop-i-preserved c =
    let l = c.loop-i in
    l.invariant ∙ place-later c.args.s c.args.desk.names l.i c.args.desk.stands (omega (arith, c.loop-i-test.true)) (ne_eqb c.if-s-desk.false)

pub returns : goal.returns
returns c =
    let l = c.loop-i in
    let e : l.i ≡ c.args.desk.stands = omega (arith, c.loop-i-test.false, l.auto.i-end) in (
      c.from.ensures ∙ sym (l.invariant ∙ place-end c.args.s c.args.desk.names l.i c.args.desk.stands e),
      omega (arith, c.from.ensures),
    )
