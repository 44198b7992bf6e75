-- `narrowest` meets its contract: refused, or the result is written.
use Prim.Native.Nat.{◌≤◌, ℕ}
use lib.ListN.{length}
use mathlib.Core.List.{List}
use mathlib.Core.Path.{◌∙◌, ◌≡◌, ap, sym}
use native.Mathlib.Omega.{arith}
use Rattle.blocks.specs.Refusals.{unless_refused}
use Rattle.blocks.specs.declared.Entry.{Entry}
use Rattle.narrow_listed.specs.Listed.{narrowest_under}
use Rattle.narrowest.proofs.answer.FormedLaws.{formed_of}
use Rattle.narrowest.proofs.answer.WayLaws.{answered, first-refused, narrowed-by, narrowed-refused, output-short, result-bounded, result-under, second-refused, second-right, too-long, word-small}
use Rattle.narrowest.specs.Answer.{laid}
use Rattle.narrowest.specs.code.Formed.{result_entries, room_for}
use Rattle.std.proofs.lemmas.Result.{err_from_is_err_and}
use Rattle.std.specs.Prelude.{Err}
use Rattle.narrowest.proofs.answer.narrowest.Goals as goal

pub returns-in_err-n : goal.returns-in_err-n
returns-in_err-n c =
    let a = c.args in
    let p = err_from_is_err_and c.from_residual.result c.from_residual.ensures.1 in
    let x = first-refused a.pairs.now a.a.now a.b.now a.out.now (sym c.form_rows.ensures.0 ∙ c.in_err-n.was) in
    rw (p.1, p.2) (sym x, sym (narrowed-refused a.pairs.now a.a.now a.b.now a.out.now x))

pub second_rows-requires : goal.second_rows-requires
second_rows-requires c = (rw c.in_ok-n.was at c.form_rows.ensures.1).list

pub returns-in_err-m : goal.returns-in_err-m
returns-in_err-m c =
    let a = c.args in
    let F = rw c.in_ok-n.was at c.form_rows.ensures.1 in
    let p = err_from_is_err_and c.from_residual-in_err-m.result c.from_residual-in_err-m.ensures.1 in
    let x = second-refused a.pairs.now a.a.now a.b.now a.out.now F.list.list_read F.read (c.second_rows.ensures.refused _ c.in_err-m.was) in
    rw (p.1, p.2) (sym x, sym (narrowed-refused a.pairs.now a.a.now a.b.now a.out.now x))

pub returns-then-a-b-gt8192 : goal.returns-then-a-b-gt8192
returns-then-a-b-gt8192 c =
    let a = c.args in
    let F = rw c.in_ok-n.was at c.form_rows.ensures.1 in
    let x = too-long a.pairs.now a.a.now a.b.now a.out.now F.list.list_read F.read (second-right a.b.now (rw c.in_ok-m.was at c.second_rows.ensures.held).read) (omega (arith, c.if-a-b-gt8192.true)) in
    (ap Err c.refusal.ensures ∙ sym x, sym (narrowed-refused a.pairs.now a.a.now a.b.now a.out.now x))

pub returns-then-out-a : goal.returns-then-out-a
returns-then-out-a c =
    let a = c.args in
    let F = rw c.in_ok-n.was at c.form_rows.ensures.1 in
    let x = output-short a.pairs.now a.a.now a.b.now a.out.now F.list.list_read F.read (second-right a.b.now (rw c.in_ok-m.was at c.second_rows.ensures.held).read) (omega (arith, c.if-a-b-gt8192.false)) (omega (arith, c.if-out-a.true)) in
    (ap Err c.refusal-then-out-a.ensures ∙ sym x, sym (narrowed-refused a.pairs.now a.a.now a.b.now a.out.now x))

pub write_result-requires : goal.write_result-requires
write_result-requires c =
    let a = c.args in
    let F = rw c.in_ok-n.was at c.form_rows.ensures.1 in
    let G = rw c.in_ok-m.was at c.second_rows.ensures.held in
    let fr : length c.form_rows.new.rows ≤ 1008 = omega (arith, c.form_rows.array_long) in
    let gr : length c.second_rows.new.rows ≤ 1008 = omega (arith, c.second_rows.array_long) in
    let words = word-small a.pairs.now (λ i. omega (arith, c.type_inv.pairs i)) in (
      F.list,
      words,
      rw c.formed.ensures (formed_of F fr),
      rw c.formed-2.ensures (formed_of G gr),
      rw (c.formed.ensures, c.formed-2.ensures, result-under F G fr gr) (result-bounded F G fr gr words),
    )

pub returns : goal.returns
returns c =
    let a = c.args in
    let F = rw c.in_ok-n.was at c.form_rows.ensures.1 in
    let G = rw c.in_ok-m.was at c.second_rows.ensures.held in
    let fr : length c.form_rows.new.rows ≤ 1008 = omega (arith, c.form_rows.array_long) in
    let gr : length c.second_rows.new.rows ≤ 1008 = omega (arith, c.second_rows.array_long) in
    let e : result_entries a.pairs.now c.formed.result.rows.now c.formed-2.result.rows.now ≡ narrowest_under a.pairs.now a.a.now a.b.now
    = rw (c.formed.ensures, c.formed-2.ensures) (result-under F G fr gr) in
    let x = answered a.pairs.now a.a.now a.b.now a.out.now F.list.list_read F.read (second-right a.b.now (rw c.in_ok-m.was at c.second_rows.ensures.held).read) (omega (arith, c.if-a-b-gt8192.false)) (omega (arith, c.if-out-a.false)) in (
      c.write_result.ensures.0 ∙ ap (room_for a.out.now) e ∙ sym x,
      c.write_result.ensures.1 ∙ ap (λ (N : List Entry). unless_refused {B = List ℕ} (λ y. a.out.now) (room_for a.out.now N) (laid N a.out.now)) e
          ∙ narrowed-by a.pairs.now a.a.now a.b.now a.out.now x,
    )
