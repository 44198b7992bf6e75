use Prim.Native.Nat.{ℕ}
use mathlib.Core.Path.{◌∙◌, ◌≡◌, sym}
use native.Mathlib.Omega.{arith}
use Rattle.unfolding.proofs.DictionaryRead.{passed-accepted, passed-behind, passed-more, passed-ready, passed-refused, passed_start}
use Rattle.std.proofs.lemmas.Result.{err_from_is_err_and}
use Rattle.unfolding.proofs.dictionary.read_parts.Goals as goal

pub loop-part-init : goal.loop-part-init
loop-part-init c = passed_start _ _ c.requires.1 c.requires.2 (c.into_iter-part-iterator.ensures.into_iter_gives ∙ c.of-part-items.ensures)

pub overflow_add-at : goal.overflow_add-at
overflow_add-at c = omega (arith, passed-behind c.loop-part.invariant c.in-Some.ensures.steps)

pub loop-part-preserved : goal.loop-part-preserved
loop-part-preserved c =
    let P = c.loop-part.invariant in
    passed-more P c.in-Some.ensures.steps c.requires.0 c.in_ok-m.was (c.read_named.ensures _ P.known) c.add.ensures.0 c.add.ensures.1

pub returns : goal.returns
returns c =
    let P = c.loop-part.invariant in
    let none = c.in-None.ensures.steps.0 in
    (sym (passed-accepted P none), λ m q. (cc, passed-ready P none))

pub returns-in_err-m : goal.returns-in_err-m
returns-in_err-m c =
    let P = c.loop-part.invariant in
    let r = passed-refused P c.in-Some.ensures.steps c.in_err-m.was (c.read_named.ensures _ P.known) in
    let p = err_from_is_err_and c.from_residual.result c.from_residual.ensures.1 in
    rw (p.1, p.2) (sym r, λ m q. let z : ◌≡◌ {A = ℕ} 0 1 = cc in absurd (omega arith))
