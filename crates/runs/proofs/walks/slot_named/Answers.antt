use Rattle.std.proofs.Common.{sym, ◌∙◌}
use Rattle.runs.proofs.AlongChains.{read}
use Rattle.runs.proofs.walks.NameLaws.{look-ends, look-goes, look-hits, look-starts}
use Rattle.runs.proofs.walks.slot_named.Goals as goal

pub loop-s-init : goal.loop-s-init
loop-s-init c =
    let a = c.args in
    rw c.into_iter-s-iterator.ensures.into_iter_gives (look-starts a.table.now a.last.now a.before.now a.run a.name c.chain_start-first.ensures)

pub loop-s-preserved : goal.loop-s-preserved
loop-s-preserved c =
    look-goes c.loop-s.invariant c.in-Some.ensures.steps (read c.args.table.now c.from-at.ensures) c.name_in.ensures.0
    (λ z. c.if-name_in-from.false (z ∙ sym c.from.ensures))

pub returns-then-name_in-from : goal.returns-then-name_in-from
returns-then-name_in-from c =
    c.from-at.ensures
    ∙ look-hits c.loop-s.invariant c.in-Some.ensures.steps (read c.args.table.now c.from-at.ensures) c.name_in.ensures.0
    (c.if-name_in-from.true ∙ c.from.ensures)

pub returns : goal.returns
returns c = look-ends c.loop-s.invariant c.in-None.ensures.steps.0
