use Rattle.std.proofs.Common.{◌≡◌, ◌+◌, ◌-◌, sym, ap, length-take, ◌∙◌, arith}
use Rattle.blocks.proofs.Refusing.PassLaws.{Now, begun, ended, turned}
use Rattle.blocks.proofs.Refusing.LevelLaws.{entries-end, entries-found, entries-more, level-small, level-told, levels-more, levels-start, level-passed}
use Rattle.blocks.specs.Entries.{entries_of}
use Rattle.blocks.specs.Faults.{Faulty, first}
use Rattle.blocks.specs.code.ReadingSteps.{rule_faults}
use Rattle.blocks.specs.Reading.{answer}
use Rattle.reading.proofs.rules.fault_by_levels.Goals as goal
use Rattle.reading.proofs.rules.fault_by_levels.Goals.{In-Some}

-- the turn: which entry it has
here : (c : In-Some) → Now c.args.s.now c.args.total c.loop-before.yielded c.in-Some.before c.in-Some.bytes
here c = turned c.loop-before.invariant.over _ _ c.loop-before.yielded_by c.next.new.self c.in-Some.is c.next.ensures.steps

pub loop-before-init : goal.loop-before-init
loop-before-init c =
    let n = c.enumerate-before-items.ensures in
    let o = begun (omega (arith, c.requires.0)) (omega (arith, c.requires.1)) c.requires.2 c.entries_in_order.ensures.items n.source n.count c.into_iter-before-iterator.ensures.into_iter_gives in
    let e : c.args.total + 1 - 1 ≡ c.args.total = omega arith in
    record {
      goes = (tt, tt, o.1);
      ends = tt;
      over = o.0;
      levels = levels-start _ _ c.args.level.now (omega (arith, c.requires.0, c.requires.3));
      rest = rw e;
    }

pub overflow_cast-result : goal.overflow_cast-result
overflow_cast-result c = let h = here (goal.at.overflow_cast-result c).In-Some in omega (arith, c.requires.1, h.before)

pub returns-in-Some-entry_refusal : goal.returns-in-Some-entry_refusal
returns-in-Some-entry_refusal c =
    let h = here (goal.at.returns-in-Some-entry_refusal c).In-Some in
    let i = c.loop-before.invariant in
    let found : first (rule_faults c.args.schema (entries_of c.args.s.now) 1 c.args.total) ≡ Faulty c.in-Some-entry_refusal.cause (c.in-Some.before + 1) =
    i.rest ∙ (rw (← h.same) (entries-found _ _ _ _ (rw (← h.same) at i.levels) (omega arith) (c.from-e.ensures ∙ h.entry) (c.owner_level-l.ensures ∙ level-passed _ _ _) c.entry_refusal.ensures c.args.total (omega (arith, h.before)) c.in-Some-entry_refusal.is)) in
    ap (answer c.args.input tt) (sym found)

pub slice_bounds-owner_level-end : goal.slice_bounds-owner_level-end
slice_bounds-owner_level-end c =
    let h = here (goal.at.slice_bounds-owner_level-end c).In-Some in
    omega (arith, c.requires.0, h.before, c.loop-before.invariant.levels.room)

pub slice_bounds-owner_level-end-in-loop-before : goal.slice_bounds-owner_level-end-in-loop-before
slice_bounds-owner_level-end-in-loop-before c =
    let h = here (goal.at.slice_bounds-owner_level-end-in-loop-before c).In-Some in
    omega (arith, length-take (c.in-Some.before + 1) c.loop-before.level, c.requires.0, h.before, c.loop-before.invariant.levels.room)

pub bounds-level-n : goal.bounds-level-n
bounds-level-n c =
    let h = here (goal.at.bounds-level-n c).In-Some in
    omega (arith, c.requires.0, h.same, h.before, c.loop-before.invariant.levels.room)

pub loop-before-preserved : goal.loop-before-preserved
loop-before-preserved c =
    let h = here (goal.at.loop-before-preserved c).In-Some in
    let i = c.loop-before.invariant in
    let t = rw (← h.same) at i.levels in
    let small = level-small _ _ _ _ t (omega arith) (c.from-e.ensures ∙ h.entry) (c.owner_level-l.ensures ∙ level-passed _ _ _) c.entry_refusal.ensures c.in_default.is in
    record {
      goes = c.in-Some.ensures.goes.keeps;
      ends = tt;
      over = i.over;
      levels = rw h.more (levels-more _ _ _ _ t (omega arith) (c.from-e.ensures ∙ h.entry) (c.owner_level-l.ensures ∙ level-passed _ _ _) c.entry_refusal.ensures c.in_default.is (omega (arith, h.before, c.requires.0)) (level-told _ _ (omega (arith, small)) c.level_under.ensures));
      rest = rw h.more (i.rest ∙ rw (← h.same) (entries-more _ _ _ _ t (omega arith) (c.from-e.ensures ∙ h.entry) (c.owner_level-l.ensures ∙ level-passed _ _ _) c.entry_refusal.ensures c.args.total (omega (arith, h.before)) c.in_default.is));
    }

pub returns : goal.returns
returns c =
    let l = c.loop-before in
    let n = ended l.invariant.over _ _ l.yielded_by c.next.new.self c.in-None.is c.next.ensures.steps in
    ap (answer c.args.input tt) (sym (l.invariant.rest ∙ entries-end _ _ _ _ (omega (arith, n))))
