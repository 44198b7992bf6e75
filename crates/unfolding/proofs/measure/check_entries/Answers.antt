use Rattle.std.proofs.Common.{◌≡◌, ◌+◌, ◌<◌, ◌≤◌, sym, length, length-take, ◌∙◌, arith}
use Rattle.base.proofs.Tests.{eq-eqb, ne_eqb}
use Rattle.blocks.proofs.Refusing.InOrder.{may-number, over-numbered, turned-all-numbered}
use Rattle.blocks.proofs.Refusing.PassLaws.{Now, turned}
use Rattle.blocks.proofs.Refusing.LevelLaws.{level-passed, level-told}
use Rattle.blocks.specs.Entries.{entries_of, is_named}
use Rattle.blocks.specs.code.ReadingSteps.{entry_refusal, level_by}
use Rattle.blocks.specs.declared.Schema.TheVariants.{Named}
use Rattle.names.proofs.Dictionary.ByAllValues.{given-name}
use Rattle.unfolding.proofs.Measuring.{Past, name-level, other-level, other-rules, past-all, past-more, past-refused, past-start, unrefused}
use Rattle.unfolding.specs.code.Known.{levels_in, size_in}
use mathlib.Core.Bool.{false, true}
use mathlib.Core.Path.{refl}
use Rattle.unfolding.proofs.measure.check_entries.Goals.{After-entry_refusal, After-owner_level-l, In-Some, In_default}
use Rattle.unfolding.proofs.measure.check_entries.Goals as goal

-- the turn
here : (c : In-Some) → Now c.args.s.now c.args.total c.loop-before.yielded c.in-Some.before c.in-Some.bytes
here c = let l = c.loop-before in turned l.invariant.over l.yielded l.before-iterator l.yielded_by c.next.new.self c.in-Some.is c.next.ensures.steps

there : (c : In-Some) → c.in-Some.before + 1 ≤ length (entries_of c.args.s.now)
there c = omega (arith, c.requires.0, (here c).before)

pub loop-before-init : goal.loop-before-init
loop-before-init c =
    let a = c.args in
    let p = c.requires in
    let n = c.enumerate-before-items.ensures in
    let o = over-numbered p.2 (omega (arith, p.0)) c.entries_in_order.ensures.items n.source n.count c.into_iter-before-iterator.ensures.into_iter_gives in
    record {
      goes = (tt, tt, may-number o (omega arith));
      ends = tt;
      over = o;
      past = past-start _ _ _ _ a.total a.level.now (omega (arith, p.0, p.3));
    }

pub slice_bounds-owner_level-end : goal.slice_bounds-owner_level-end
slice_bounds-owner_level-end c =
    let h = here (goal.at.slice_bounds-owner_level-end c).In-Some in
    omega (arith, c.requires.0, h.before, c.loop-before.invariant.past.levels.room)

pub slice_bounds-owner_level-end-in-loop-before : goal.slice_bounds-owner_level-end-in-loop-before
slice_bounds-owner_level-end-in-loop-before c =
    let h = here (goal.at.slice_bounds-owner_level-end-in-loop-before c).In-Some in
    omega (arith, length-take (c.in-Some.before + 1) c.loop-before.level, c.requires.0, h.before, c.loop-before.invariant.past.levels.room)

-- the table has a number for it
placed : (c : In-Some) → c.in-Some.before + 1 < length c.loop-before.level
placed c = omega (arith, there c, c.loop-before.invariant.past.levels.room)

pub bounds-level-n : goal.bounds-level-n
bounds-level-n c = placed (goal.at.bounds-level-n c).In-Some

pub bounds-level-n-else-e-eq-NAME : goal.bounds-level-n-else-e-eq-NAME
bounds-level-n-else-e-eq-NAME c = placed (goal.at.bounds-level-n-else-e-eq-NAME c).In-Some

-- a name that is not refused has a number in the dictionary's tables
numbered : (c : In_default) → c.from-e.result.name ≤ 64
numbered c =
    let u = unrefused _ _ _ c.name_refusal.ensures c.in_default.is in
    omega (arith, given-name _ _ u.0 (eq-eqb c.if-e-eq-NAME.true), c.args.tables.now.few)

pub size-requires : goal.size-requires
size-requires c = numbered (goal.at.size-requires c).In_default

pub levels-requires : goal.levels-requires
levels-requires c = numbered (goal.at.levels-requires c).In_default

pub under_level-requires : goal.under_level-requires
under_level-requires c = let u = unrefused _ _ _ c.name_refusal.ensures c.in_default.is in omega (arith, u.1.0)

-- those passed, before this turn, and the level of its owner
passed : (c : After-owner_level-l)
    → Past c.args.tables.now.count (size_in c.args.tables.now.of) (levels_in c.args.tables.now.of) (entries_of c.args.s.now) c.args.total
    c.loop-before.level c.loop-before.had c.loop-before.deep c.in-Some.before
passed c = rw (← (here (goal.at.After-owner_level-l c).In-Some).same) at c.loop-before.invariant.past

level : (c : After-owner_level-l) → c.owner_level-l.result ≡ level_by c.loop-before.level (c.in-Some.before + 1) c.from-e.result.owner
level c = c.owner_level-l.ensures ∙ level-passed _ _ _

-- why any other entry is refused
refused-by : (c : After-entry_refusal) → c.entry_refusal.result ≡ entry_refusal (Named c.args.tables.now.count) c.from-e.result c.owner_level-l.result
refused-by c = c.entry_refusal.ensures ∙ sym (other-rules _ _ _ (ne_eqb c.if-e-eq-NAME.false))

pub loop-before-preserved-then-e-eq-NAME : goal.loop-before-preserved-then-e-eq-NAME
loop-before-preserved-then-e-eq-NAME c =
    let at = goal.at.loop-before-preserved-then-e-eq-NAME c in
    let h = here at.In-Some in
    let o = at.After-owner_level-l in
    let named : is_named c.from-e.result ≡ true = eq-eqb c.if-e-eq-NAME.true in
    record {
      goes = c.in-Some.ensures.goes.keeps;
      ends = tt;
      over = c.loop-before.invariant.over;
      past = rw h.more
          (past-more (passed o) h.before c.requires.0 (c.from-e.ensures ∙ h.entry) (level o) c.name_refusal.ensures c.in_default.is
          (name-level c.args.tables.now.count c.from-e.result c.owner_level-l.result named)
          (rw named (c.from-had.ensures ∙ c.size.ensures)) (omega (arith, c.size.type_inv, c.from-had.ensures))
          (c.under_level.ensures ∙ rw (named, c.levels.ensures)) c.max-deep.ensures);
    }

pub loop-before-preserved : goal.loop-before-preserved
loop-before-preserved c =
    let at = goal.at.loop-before-preserved c in
    let h = here at.In-Some in
    let o = at.After-owner_level-l in
    let other : is_named c.from-e.result ≡ false = ne_eqb c.if-e-eq-NAME.false in
    let r = refused-by at.After-entry_refusal in
    let u = unrefused _ _ _ r c.in_default-entry_refusal.is in
    record {
      goes = c.in-Some.ensures.goes.keeps;
      ends = tt;
      over = c.loop-before.invariant.over;
      past = rw h.more
          (past-more (passed o) h.before c.requires.0 (c.from-e.ensures ∙ h.entry) (level o) r c.in_default-entry_refusal.is
          (other-level c.args.tables.now.count _ _ (level-told _ _ (omega (arith, u.1.1)) c.level_under.ensures))
          (rw other) (omega arith) (rw other (omega (arith, c.from.ensures, u.1.0))) c.max-deep-else-e-eq-NAME.ensures);
    }

pub returns : goal.returns
returns c =
    let l = c.loop-before in
    let n = turned-all-numbered l.invariant.over l.yielded l.before-iterator l.yielded_by c.next.result c.next.new.self c.in-None.is c.next.ensures.steps in
    past-all l.invariant.past c.requires.0 n

pub returns-in-Some-name_refusal : goal.returns-in-Some-name_refusal
returns-in-Some-name_refusal c =
    let at = goal.at.returns-in-Some-name_refusal c in
    let h = here at.In-Some in (
      past-refused (passed at.After-owner_level-l) h.before c.requires.0 (c.from-e.ensures ∙ h.entry) (level at.After-owner_level-l)
          c.name_refusal.ensures c.in-Some-name_refusal.is,
      refl,
    )

pub returns-in-Some-entry_refusal : goal.returns-in-Some-entry_refusal
returns-in-Some-entry_refusal c =
    let at = goal.at.returns-in-Some-entry_refusal c in
    let h = here at.In-Some in (
      past-refused (passed at.After-owner_level-l) h.before c.requires.0 (c.from-e.ensures ∙ h.entry) (level at.After-owner_level-l)
          (refused-by at.After-entry_refusal) c.in-Some-entry_refusal.is,
      refl,
    )
