use native.Mathlib.Omega.{arith}
use mathlib.Core.Path.{◌∙◌, sym}
use Rattle.std.proofs.lemmas.Result.{err_from_is_err_and}
use Rattle.slots.proofs.ContainmentLaws.{read-all, read-behind, read-end, read-more, read-refused, read-some, read-start}
use Rattle.slots.proofs.containment.read_services.Goals as goal

pub loop-part-init : goal.loop-part-init
loop-part-init c = read-start _ _ (omega arith) (c.into_iter-part-iterator.ensures.into_iter_gives ∙ c.of-part-items.ensures)

pub overflow_cast-n : goal.overflow_cast-n
overflow_cast-n c = omega (arith, c.requires, read-some c.loop-part.invariant c.in-Some.ensures.steps)

pub overflow_add-at : goal.overflow_add-at
overflow_add-at c = omega (arith, read-behind c.loop-part.invariant c.in-Some.ensures.steps)

pub loop-part-preserved : goal.loop-part-preserved
loop-part-preserved c = read-more c.loop-part.invariant c.in-Some.ensures.steps c.requires (sym c.read.ensures ∙ c.in_ok-total.was)

pub returns-clause-read : goal.returns-clause-read
returns-clause-read c = let A = c.loop-part.invariant in let none = c.in-None.ensures.steps.0 in (read-end A none, read-all A none c.requires)

pub returns-in_err-total : goal.returns-in_err-total
returns-in_err-total c =
    let p = err_from_is_err_and c.from_residual.result c.from_residual.ensures.1 in
    let r = read-refused c.loop-part.invariant c.in-Some.ensures.steps (sym c.read.ensures ∙ c.in_err-total.was) in
    rw (p.1, p.2) (record { refused = r; read = tt })
