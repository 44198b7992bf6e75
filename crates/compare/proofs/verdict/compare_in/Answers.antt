-- `compare_in` meets its contract: refused, all hold, or one fails, and the slots are lent as far as the last.
use Prim.Native.Nat.{◌+◌}
use Rattle.std.specs.Prelude.{Ok}
use mathlib.Core.Path.{◌∙◌, ap, sym}
use native.Mathlib.Omega.{arith}
use Rattle.compare.proofs.AnswerLaws.{list-output, list_read}
use Rattle.compare.proofs.verdict.SlotsLeft.{failed-somehow, holding-agreed, holding-failed, holding-refused}
use Rattle.pairs.proofs.Under.{ruled-under}
use Rattle.pairs.specs.Pairs.{under}
use Rattle.std.proofs.lemmas.Result.{err_from_is_err_and}
use Rattle.compare.proofs.verdict.compare_in.Goals as goal

pub agree-requires : goal.agree-requires
agree-requires c = (holding-agreed _ _ _ _ (sym c.first_failing.ensures.0 ∙ (c.in_ok-unheld.was ∙ ap Ok c.in-None.is))).1.read

pub deny-requires : goal.deny-requires
deny-requires c =
    let f = c.first_failing.ensures in
    let told = c.in-Some in
    let h = holding-failed _ _ _ _ _ c.from.result (c.from-in-Some.result + 1) f.0 (c.in_ok-unheld.was ∙ ap Ok told.is) f.2 c.from.ensures (omega (arith, c.from-in-Some.ensures)) in
    failed-somehow h

pub returns-in_err-unheld : goal.returns-in_err-unheld
returns-in_err-unheld c =
    let p = err_from_is_err_and c.from_residual.result c.from_residual.ensures.1 in
    rw (p.1, p.2)
    (holding-refused _ _ _ c.args.table.now _ c.requires (sym c.first_failing.ensures.0 ∙ c.in_err-unheld.was))

pub returns-in-None : goal.returns-in-None
returns-in-None c =
    let a = c.args in
    let h = holding-agreed _ _ _ _ (sym c.first_failing.ensures.0 ∙ (c.in_ok-unheld.was ∙ ap Ok c.in-None.is)) in
    let l = h.0.list_read in
    let r = c.agree.ensures (under a.pairs.now) h.1 in
    (r.0 ∙ sym (list_read a.pairs.now a.c.now a.d.now a.out.now l), r.1 ∙ sym (list-output a.pairs.now a.c.now a.d.now a.out.now l))

pub returns-in-Some : goal.returns-in-Some
returns-in-Some c =
    let a = c.args in
    let f = c.first_failing.ensures in
    let told = c.in-Some in
    let h = holding-failed _ _ _ _ _ c.from.result (c.from-in-Some.result + 1) f.0 (c.in_ok-unheld.was ∙ ap Ok told.is) f.2 c.from.ensures (omega (arith, c.from-in-Some.ensures)) in
    let l = h.0.list_read in
    let r = c.deny.ensures (under a.pairs.now) (ruled-under a.pairs.now l) h.1 in
    (r.0 ∙ sym (list_read a.pairs.now a.c.now a.d.now a.out.now l), r.1 ∙ sym (list-output a.pairs.now a.c.now a.d.now a.out.now l))
