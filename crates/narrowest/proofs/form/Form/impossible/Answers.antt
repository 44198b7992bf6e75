-- `impossible` meets its contract: by the first entry.
use lib.Dec.{eqb}
use mathlib.Core.Path.{◌∙◌, ap, sym}
use native.Mathlib.Omega.{arith}
use Rattle.blocks.specs.declared.Entry.{Entry}
use Rattle.narrowest.proofs.answer.ResultLaws.{bottom-first, bottom-none}
use Rattle.narrowest.proofs.form.Form.impossible.Goals as goal

pub returns-then-self-eq0 : goal.returns-then-self-eq0
returns-then-self-eq0 c = sym (bottom-none c.args.self.rows.now c.if-self-eq0.true)

pub returns : goal.returns
returns c =
    ap (λ (e : Entry). eqb e.kind 6) c.entry_of_row.ensures ∙ sym (bottom-first c.args.self.held (omega (arith, c.if-self-eq0.false)))
