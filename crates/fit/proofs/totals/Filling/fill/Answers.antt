use Prim.Native.Nat.{◌<◌}
use lib.ListN.{length, length-replicate}
use mathlib.Core.Bool.{Bool, false}
use mathlib.Core.Path.{◌∙◌, ap, refl, sym}
use native.Mathlib.Omega.{arith}
use Rattle.blocks.specs.Entries.{entries_of}
use Rattle.fit.proofs.bare.MarkLaws.{marks-start, marks-told}
use Rattle.blocks.proofs.Refusing.PassLaws.{Now, ended, turned}
use Rattle.fit.proofs.entries.PassLaws.{begun-all, owner-here}
use Rattle.fit.proofs.totals.TotalsLaws.{groups-few, groups-next, groups_none, totals-start}
use Rattle.fit.specs.code.Bare.{any_entry}
use Rattle.fit.proofs.totals.Filling.fill.Goals.{After-from}
use Rattle.fit.proofs.totals.Filling.fill.Goals as goal

pub loop-before-init : goal.loop-before-init
loop-before-init g c =
    let r = c.requires in
    let n = c.enumerate-before-items.ensures in
    let o = begun-all r.0 r.1 c.args.self.now.kept.index.sized r.6 c.entries_in_order.ensures.items n.source n.count c.into_iter-before-iterator.ensures.into_iter_gives in
    record {
      goes = (tt, tt, o.1);
      ends = tt;
      over = o.0;
      small = record { within = omega (arith, r.2); items = λ i lo hi. absurd (omega (arith, r.2)) };
      totals = rw r.2 (totals-start (entries_of c.args.s.now) _);
      adds = r.3 ∙ sym (groups_none (entries_of c.args.s.now));
      marks = marks-start any_entry (entries_of c.args.s.now) r.5;
    }

-- the turn: which entry it has, and that its owner is one of the table
here : (g : _) (c : After-from g) → Now c.args.s.now c.args.total c.loop-before.yielded c.in-Some.before c.in-Some.bytes × (c.from.result < g.row.MOST)
here g c =
    let h = turned c.loop-before.invariant.over _ _ c.loop-before.yielded_by c.next.new.self c.in-Some.is c.next.ensures.steps in
    (h, (owner-here h c.requires.4 c.requires.0 c.requires.1 c.from-e.ensures c.from.ensures).1)

pub bounds-marks-from : goal.bounds-marks-from
bounds-marks-from g c = omega (arith, (here g (goal.at.bounds-marks-from g c).After-from).1, c.loop-before.invariant.marks.size)

pub enter-requires : goal.enter-requires
enter-requires g c =
    let h = here g (goal.at.enter-requires g c).After-from in
    let i = c.loop-before.invariant in
    let few = groups-few (entries_of c.args.s.now) (length c.loop-before.yielded) in
    let k = c.args.self.now.kept.index in
    (omega (arith, k.sized, k.size), (rw (← h.0.same) at i.small, omega (arith, h.0.before, c.requires.1), omega (arith, h.0.same, i.adds, few)))

pub loop-before-preserved : goal.loop-before-preserved
loop-before-preserved g c =
    let e = c.enter.ensures in
    let es = entries_of c.args.s.now in
    let h = here g (goal.at.loop-before-preserved g c).After-from in
    let i = c.loop-before.invariant in
    let is = c.from-e.ensures ∙ h.0.entry in
    record {
      goes = c.in-Some.ensures.goes.keeps;
      ends = tt;
      over = i.over;
      small = rw h.0.more e.0;
      totals = rw h.0.more (e.2 es is (rw (← h.0.same) at i.totals));
      adds = rw h.0.more (groups-next es c.in-Some.before is (rw (← h.0.same) at i.adds) e.1);
      marks = rw h.0.more (marks-told any_entry es (rw (← h.0.same) at i.marks) is refl c.from.ensures h.1 refl);
    }

pub shape_of-marks : goal.shape_of-marks
shape_of-marks g c =
    omega (arith, c.loop-before.invariant.marks.size, ap length c.requires.5, length-replicate {A = Bool} g.row.MOST false)

pub returns : goal.returns
returns g c =
    let l = c.loop-before in
    let n = ended l.invariant.over _ _ l.yielded_by c.next.new.self c.in-None.is c.next.ensures.steps in
    (rw n at l.invariant.totals, rw n at l.invariant.adds, rw n at l.invariant.marks)
