use Rattle.std.proofs.Common.{arith, refl, ◌≡◌, ◌+◌, ◌-◌}
use Rattle.runs.proofs.chains.ChainingLaws.{befores-more, lasts-more}
use Rattle.runs.specs.code.Chained.{befores_after, lasts_after}
use Rattle.runs.proofs.chains.chain_slots.Goals.{After-set_link-in-loop-n}
use Rattle.runs.proofs.chains.chain_slots.Goals as goal

pub loop-n-init : goal.loop-n-init
unfolding lasts_after befores_after
loop-n-init c = (omega arith, omega arith, refl, refl)

-- slot n is put on its chain
chained : (c : After-set_link-in-loop-n)
    → let a = c.args in
    (c.set_link-in-loop-n.new.links ≡ lasts_after a.table.now a.last.now c.loop-n.n)
    × (c.set_link.new.links ≡ befores_after a.table.now a.last.now a.before.now c.loop-n.n)
chained c =
    let a = c.args in
    let l = c.loop-n in
    let q : l.n ≡ l.n - 1 + 1 = omega (arith, l.invariant.0) in (
      lasts-more a.table.now a.last.now a.before.now (l.n - 1) l.n q l.invariant.2 c.from-at.ensures c.slot_at.ensures c.run_in-run.ensures
          c.set_link-in-loop-n.ensures,
      befores-more a.table.now a.last.now a.before.now (l.n - 1) l.n q l.invariant.2 c.from-at.ensures c.slot_at.ensures c.run_in-run.ensures
          l.invariant.3 c.link_at.ensures c.set_link.ensures,
    )

pub loop-n-preserved : goal.loop-n-preserved
loop-n-preserved c =
    let here : c.loop-n.n + 1 - 1 ≡ c.loop-n.n = omega arith in
    let both = chained (goal.at.loop-n-preserved c).After-set_link-in-loop-n in
    (omega arith, omega arith, rw here both.0, rw here both.1)

pub returns : goal.returns
returns c = let l = c.loop-n in let e : l.n - 1 ≡ c.args.used = omega arith in (rw (← e) l.invariant.2, rw (← e) l.invariant.3)

pub returns-2 : goal.returns-2
returns-2 c =
    let e : c.loop-n.n ≡ c.args.used = omega arith in
    let both = chained (goal.at.returns-2 c).After-set_link-in-loop-n in
    (rw (← e) both.0, rw (← e) both.1)
