use Rattle.std.proofs.Common.{◌≡◌, ◌+◌, ◌-◌, refl, sym, ap, length-take, ◌∙◌, arith}
use Rattle.blocks.proofs.Refusing.PassLaws.{Now, begun, ended, turned}
use Rattle.blocks.proofs.Refusing.LevelLaws.{level-passed, level-small, level-told, levels-more, levels-start}
use Rattle.blocks.specs.Entries.{entries_of}
use Rattle.blocks.specs.Faults.{Faulty, first, rows_from}
use Rattle.blocks.specs.Reading.{answer}
use Rattle.blocks.specs.declared.Schema.TheVariants.{Description}
use Rattle.sheets.proofs.SheetLaws.{sheet-end, sheet-found, sheet-more, unrefused-plainly}
use Rattle.sheets.specs.Sheet.{sheet_rows}
use Rattle.sheets.proofs.reader.fault_by_levels.Goals as goal
use Rattle.sheets.proofs.reader.fault_by_levels.Goals.{In-Some}

-- the turn: which entry it has
here : (c : In-Some) → Now c.args.s.now c.args.total c.loop-before.yielded c.in-Some.before c.in-Some.bytes
here c = turned c.loop-before.invariant.over _ _ c.loop-before.yielded_by c.next.new.self c.in-Some.is c.next.ensures.steps

pub loop-before-init : goal.loop-before-init
loop-before-init c =
    let n = c.enumerate-before-items.ensures in
    let into = c.into_iter-before-iterator.ensures.into_iter_gives in
    let items = c.entries_in_order.ensures.items in
    let o = begun (omega (arith, c.requires.0))
    (omega (arith, c.requires.1)) c.requires.2 items n.source n.count into in
    let e : c.args.total + 1 - 1 ≡ c.args.total = omega arith in
    record {
      goes = (tt, tt, o.1);
      ends = tt;
      over = o.0;
      levels = levels-start _ _ c.args.level.now (omega (arith, c.requires.0, c.requires.3));
      rest = rw e;
    }

pub overflow_cast-result : goal.overflow_cast-result
overflow_cast-result c = let h = here (goal.at.overflow_cast-result c).In-Some in omega (arith, c.requires.1, h.before)

pub returns-in-Some-sheet_refusal : goal.returns-in-Some-sheet_refusal
returns-in-Some-sheet_refusal c =
    let h = here (goal.at.returns-in-Some-sheet_refusal c).In-Some in
    let i = c.loop-before.invariant in
    let found : first (rows_from (sheet_rows (entries_of c.args.s.now)) 1 c.args.total)
    ≡ Faulty c.in-Some-sheet_refusal.cause (c.in-Some.before + 1) =
    i.rest ∙ (rw (← h.same)
    (sheet-found _ _ _ (rw (← h.same) at i.levels) (omega arith) (c.from-e.ensures ∙ h.entry)
    (c.owner_level-l.ensures ∙ level-passed _ _ _) c.sheet_refusal.ensures c.args.total
    (omega (arith, h.before)) c.in-Some-sheet_refusal.is)) in
    ap (answer 1 tt) (sym found)

pub slice_bounds-owner_level-end : goal.slice_bounds-owner_level-end
slice_bounds-owner_level-end c =
    let h = here (goal.at.slice_bounds-owner_level-end c).In-Some in
    omega (arith, c.requires.0, h.before, c.loop-before.invariant.levels.room)

pub slice_bounds-owner_level-end-in-loop-before : goal.slice_bounds-owner_level-end-in-loop-before
slice_bounds-owner_level-end-in-loop-before c =
    let h = here (goal.at.slice_bounds-owner_level-end-in-loop-before c).In-Some in
    let long = length-take (c.in-Some.before + 1) c.loop-before.level in
    omega (arith, long, c.requires.0, h.before, c.loop-before.invariant.levels.room)

pub bounds-level-n : goal.bounds-level-n
bounds-level-n c =
    let h = here (goal.at.bounds-level-n c).In-Some in
    omega (arith, c.requires.0, h.same, h.before, c.loop-before.invariant.levels.room)

pub loop-before-preserved : goal.loop-before-preserved
loop-before-preserved c =
    let h = here (goal.at.loop-before-preserved c).In-Some in
    let i = c.loop-before.invariant in
    let t = rw (← h.same) at i.levels in
    let at = c.from-e.ensures ∙ h.entry in
    let lv = c.owner_level-l.ensures ∙ level-passed _ _ _ in
    let plain = unrefused-plainly _ _ _ t (omega arith) at lv c.sheet_refusal.ensures c.in_default.is in
    let small = level-small Description _ _ _ t (omega arith) at lv refl plain in
    record {
      goes = c.in-Some.ensures.goes.keeps;
      ends = tt;
      over = i.over;
      levels = rw h.more (levels-more Description _ _ _ t (omega arith) at lv refl plain
          (omega (arith, h.before, c.requires.0)) (level-told _ _ (omega (arith, small)) c.level_under.ensures));
      rest = rw h.more (i.rest
          ∙ rw (← h.same) (sheet-more _ _ _ t (omega arith) at lv c.sheet_refusal.ensures c.args.total
          (omega (arith, h.before)) c.in_default.is));
    }

pub returns : goal.returns
returns c =
    let l = c.loop-before in
    let n = ended l.invariant.over _ _ l.yielded_by c.next.new.self c.in-None.is c.next.ensures.steps in
    ap (answer 1 tt) (sym (l.invariant.rest ∙ sheet-end _ _ _ (omega (arith, n))))
