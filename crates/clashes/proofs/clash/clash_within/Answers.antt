use Rattle.std.proofs.Common.{◌≡◌, ◌∙◌, ◌+◌, ◌-◌, ◌&&◌, not, ltb, ap, sym, ℕ, arith}
use lib.ListN.{length-replicate}
use Rattle.base.proofs.SearchLaws.{first-end, first_goes, first_stops}
use Rattle.blocks.proofs.Refusing.PassLaws.{Now, begun, ended, turned}
use Rattle.blocks.specs.Entries.{entries_of}
use Rattle.clashes.proofs.Completing.{below-tested, given-start}
use Rattle.clashes.specs.Clash.{completes}
use Rattle.clashes.specs.Promise.{apart_below}
use Rattle.clashes.specs.code.Given.{GivenTo}
use Rattle.pairs.specs.declared.sides.Sides.{Sides}
use Rattle.clashes.proofs.clash.clash_within.Goals.{After-give, In-Some}
use Rattle.clashes.proofs.clash.clash_within.Goals as goal

-- the turn: which entry it has
turn : (g : _) (c : In-Some g) → Now c.args.s.now c.args.n c.loop-before.yielded c.in-Some.before c.in-Some.bytes
turn g c = turned c.loop-before.invariant.over _ _ c.loop-before.yielded_by c.next.new.self c.in-Some.is c.next.ensures.steps

pub loop-before-init : goal.loop-before-init
loop-before-init g c =
    let p = c.requires in
    let n = c.enumerate-before-items.ensures in
    let o = begun p.2 (omega (arith, p.1)) (omega (arith, p.3)) c.entries_in_order.ensures.items n.source n.count c.into_iter-before-iterator.ensures.into_iter_gives in
    let e : c.args.n + 1 - 1 ≡ c.args.n = omega arith in
    record { goes = (tt, tt, o.1); ends = tt; over = o.0; size = length-replicate {A = Sides} g.row.MOST c.none-given.result; given = given-start _ _ _ c.none-given.ensures; apart = rw e }

-- what the test of the entry says, and what its owner is given
given : (g : _) (c : After-give g) → Now c.args.s.now c.args.n c.loop-before.yielded c.in-Some.before c.in-Some.bytes
    → (let P = c.args.exclusions.pairs.now in let es = entries_of c.args.s.now in
    (apart_below g.row.MOST P es (c.in-Some.before + 1) ≡ not c.give.result) × GivenTo P es (c.in-Some.before + 1) c.give.new.given)
given g c t =
    let P = c.args.exclusions.pairs.now in
    let es = entries_of c.args.s.now in
    let at = c.from.ensures ∙ t.entry in
    let r = c.give.ensures es c.in-Some.before (rw (← t.same) at c.loop-before.invariant.given) at in
    (below-tested P es c.in-Some.before at g.row.MOST (r.0 ∙ ap (λ (k : ℕ). ltb c.from.result.owner k && completes P es (c.in-Some.before + 1)) c.loop-before.invariant.size), r.1)

pub loop-before-preserved : goal.loop-before-preserved
loop-before-preserved g c =
    let d = goal.at.loop-before-preserved g c in
    let t = turn g d.In-Some in
    let r = given g d.After-give t in
    let i = c.loop-before.invariant in
    let ok = r.0 ∙ ap not c.if-give.false in
    record {
      goes = c.in-Some.ensures.goes.keeps;
      ends = tt;
      over = i.over;
      size = omega (arith, c.give.auto, i.size);
      given = rw t.more r.1;
      apart = rw t.more (i.apart ∙ rw (← t.same) (first_goes _ _ _ (omega (arith, t.before)) ok));
    }

pub returns-then-give : goal.returns-then-give
returns-then-give g c =
    let d = goal.at.returns-then-give g c in
    let t = turn g d.In-Some in
    let broken = (given g d.After-give t).0 ∙ ap not c.if-give.true in
    (sym (c.loop-before.invariant.apart ∙ rw (← t.same) (first_stops _ _ _ (omega (arith, t.before)) broken)), omega arith, omega (arith, t.before))

pub returns : goal.returns
returns g c =
    let l = c.loop-before in
    let n = ended l.invariant.over _ _ l.yielded_by c.next.new.self c.in-None.is c.next.ensures.steps in
    l.invariant.apart ∙ first-end _ _ _ (omega (arith, n))
