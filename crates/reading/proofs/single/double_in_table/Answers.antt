use Rattle.std.proofs.Common.{◌≡◌, ◌+◌, ◌-◌, sym, ◌∙◌, arith, rules}
use Rattle.base.proofs.SearchLaws.{first-end, first_goes, first_stops}
use Rattle.base.proofs.Tests.{false_of_not, true_of_not}
use Rattle.blocks.proofs.Refusing.PassLaws.{Now, begun, ended, turned}
use Rattle.blocks.proofs.Refusing.SingleSearch.{no_place, place-is}
use Rattle.blocks.proofs.Refusing.SingleTable.{kept-start}
use Rattle.reading.proofs.single.double_in_table.Given.{Over}
use Rattle.reading.proofs.single.double_in_table.Goals as goal
use Rattle.reading.proofs.single.double_in_table.Goals.{In-Some}

-- the turn: which entry it has
here : {g : Over} (c : In-Some g) → Now c.args.s.now c.args.n c.loop-before.yielded c.in-Some.before c.in-Some.bytes
here c = turned c.loop-before.invariant.over _ _ c.loop-before.yielded_by c.next.new.self c.in-Some.is c.next.ensures.steps

pub loop-before-init : goal.loop-before-init
loop-before-init g c =
    let p = c.requires in
    let n = c.enumerate-before-items.ensures in
    let o = begun p.0 (omega (arith, p.1)) p.2 c.entries_in_order.ensures.items n.source n.count c.into_iter-before-iterator.ensures.into_iter_gives in
    let e : c.args.n + 1 - 1 ≡ c.args.n = omega arith in
    record { goes = (tt, tt, o.1); ends = tt; over = o.0; kept = rw c.new-firsts.ensures (kept-start _); rest = rw e }

pub brings_second-requires : goal.brings_second-requires
brings_second-requires g c =
    let h = here (goal.at.brings_second-requires g c).In-Some in
    (search rules, omega (arith, h.same, h.before, c.loop-before.invariant.kept.few, c.requires.3))

pub loop-before-preserved : goal.loop-before-preserved
loop-before-preserved g c =
    let h = here (goal.at.loop-before-preserved g c).In-Some in
    let i = c.loop-before.invariant in
    let f = c.brings_second.ensures _ _ (c.from.ensures ∙ h.entry) (rw (← h.same) at i.kept) in
    record {
      goes = c.in-Some.ensures.goes.keeps;
      ends = tt;
      over = i.over;
      kept = rw h.more (f.1 c.if-brings_second.false);
      rest = rw h.more (i.rest ∙ rw (← h.same) (first_goes _ _ _ (omega (arith, h.before)) (true_of_not _ (sym f.0 ∙ c.if-brings_second.false))));
    }

pub returns-then-brings_second : goal.returns-then-brings_second
returns-then-brings_second g c =
    let h = here (goal.at.returns-then-brings_second g c).In-Some in
    let i = c.loop-before.invariant in
    let f = c.brings_second.ensures _ _ (c.from.ensures ∙ h.entry) (rw (← h.same) at i.kept) in
    place-is _ _ (i.rest ∙ rw (← h.same) (first_stops _ _ _ (omega (arith, h.before)) (false_of_not _ (sym f.0 ∙ c.if-brings_second.true)))) (omega arith)

pub returns : goal.returns
returns g c =
    let l = c.loop-before in
    let n = ended l.invariant.over _ _ l.yielded_by c.next.new.self c.in-None.is c.next.ensures.steps in
    no_place (l.invariant.rest ∙ first-end _ _ _ (omega (arith, n)))
