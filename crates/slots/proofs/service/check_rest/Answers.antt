use Rattle.std.proofs.Common.{ap, arith, length, refl}
use mathlib.Core.Logic.{inl}
use Rattle.std.proofs.lemmas.Result.{err_from_is_err_and}
use Rattle.slots.proofs.service.LeftLaws.{left-end, resting-all, resting-more, resting-refused}
use Rattle.slots.proofs.service.check_rest.Goals as goal

pub loop-before-init : goal.loop-before-init
loop-before-init c =
    let e = c.into_iter-before-iterator.ensures.into_iter_gives in
    record {
      goes = (tt, tt, inl (rw e (omega arith)));
      ends = tt;
      room = refl;
      all = refl;
      rests = λ d total L T. record { left = L; levels = T; rest = refl };
    }

pub loop-before-preserved : goal.loop-before-preserved
loop-before-preserved c =
    let i = c.loop-before.invariant in
    record {
      goes = c.in-Some.ensures.goes.keeps;
      ends = tt;
      room = omega (arith, c.check_entry.auto.level, i.room);
      all = omega (arith, i.all, ap length c.in-Some.ensures.steps.0, c.in-Some.ensures.steps.2);
      rests = λ d total L T. resting-more (i.rests d total L T) c.next.new.self c.in-Some.before c.in-Some.bytes
          c.in-Some.ensures.steps c.from.ensures _ _ _ c.check_entry.ensures c.in_ok-check_entry.was;
    }

pub returns : goal.returns
returns c = λ d total L T.
    let e = c.into_iter-before-iterator.ensures.into_iter_gives in
    let R = c.loop-before.invariant.rests d total (rw e L) (rw e T) in
    let n = left-end _ c.next.new.self R.left c.in-None.ensures.steps in
    rw (← e) (resting-all R n)

pub returns-in_err-check_entry : goal.returns-in_err-check_entry
returns-in_err-check_entry c =
    let e = c.into_iter-before-iterator.ensures.into_iter_gives in
    let p = err_from_is_err_and c.from_residual.result c.from_residual.ensures.1 in
    rw (p.1, p.2) (λ d total L T.
    rw (← e) (resting-refused (c.loop-before.invariant.rests d total (rw e L) (rw e T)) c.next.new.self c.in-Some.before c.in-Some.bytes
    c.in-Some.ensures.steps c.from.ensures _ _ _ c.check_entry.ensures c.in_err-check_entry.was))
