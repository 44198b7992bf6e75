-- `owners_ok` meets its contract.
use Rattle.std.proofs.Common.{◌≡◌, ◌+◌, ◌-◌, ◌∙◌, ap, refl, length, arith}
use lib.ListN.{length-map}
use Rattle.blocks.proofs.Refusing.LevelLaws.{entries-end, entries-found, entries-more, level-passed, level-told, levels-more, levels-start}
use Rattle.blocks.specs.Entries.{entry_from, form_ok}
use Rattle.blocks.specs.declared.Schema.TheVariants.{Description}
use Rattle.desk.proofs.forms.FormLaws.{form-at, no-owner, not-refused, too-deep}
use Rattle.drafts.proofs.DraftedLaws.{drafted-of, nth-row, undrafted-of}
use Rattle.desk.proofs.sound.owners_ok.Goals as goal

pub loop-before-init : goal.loop-before-init
loop-before-init c =
    let l = length-map c.args.rows.now (λ b. entry_from b 0) in
    let e : length c.args.rows.now + 1 - 1 ≡ length c.args.rows.now = omega arith in
    record { levels = levels-start Description _ c.args.level.now (omega (arith, l, c.told-level, c.requires.0)); rest = rw e }

pub returns-then-l-eq0-clause-tells : goal.returns-then-l-eq0-clause-tells
returns-then-l-eq0-clause-tells c =
    let i = c.loop-before.invariant in
    let here = c.loop-before-test.true in
    let at = c.from-e.ensures ∙ nth-row c.args.rows.now c.loop-before.before here in
    let lv = c.owner_level-l.ensures ∙ level-passed c.loop-before.level (c.loop-before.before + 1) c.from-e.result.owner in
    let form = ap (form_ok Description) c.from-e.ensures ∙ form-at c.args.rows.now c.requires.1 c.loop-before.before here in
    undrafted-of c.args.rows.now (i.rest ∙ entries-found Description _ c.loop-before.level _ i.levels (omega arith) at lv refl (length c.args.rows.now) (omega (arith, here)) (no-owner c.from-e.result form c.if-l-eq0.true))

pub returns-then-l-gt33-clause-tells : goal.returns-then-l-gt33-clause-tells
returns-then-l-gt33-clause-tells c =
    let i = c.loop-before.invariant in
    let here = c.loop-before-test.true in
    let at = c.from-e.ensures ∙ nth-row c.args.rows.now c.loop-before.before here in
    let lv = c.owner_level-l.ensures ∙ level-passed c.loop-before.level (c.loop-before.before + 1) c.from-e.result.owner in
    let form = ap (form_ok Description) c.from-e.ensures ∙ form-at c.args.rows.now c.requires.1 c.loop-before.before here in
    undrafted-of c.args.rows.now (i.rest ∙ entries-found Description _ c.loop-before.level _ i.levels (omega arith) at lv refl (length c.args.rows.now) (omega (arith, here)) (too-deep c.from-e.result form c.if-l-eq0.false c.if-l-gt33.true))

pub loop-before-preserved : goal.loop-before-preserved
loop-before-preserved c =
    let i = c.loop-before.invariant in
    let here = c.loop-before-test.true in
    let l = length-map c.args.rows.now (λ b. entry_from b 0) in
    let at = c.from-e.ensures ∙ nth-row c.args.rows.now c.loop-before.before here in
    let lv = c.owner_level-l.ensures ∙ level-passed c.loop-before.level (c.loop-before.before + 1) c.from-e.result.owner in
    let form = ap (form_ok Description) c.from-e.ensures ∙ form-at c.args.rows.now c.requires.1 c.loop-before.before here in
    let none = not-refused c.from-e.result form c.if-l-eq0.false (omega (arith, c.if-l-gt33.false)) in
    record {
      levels = levels-more Description _ c.loop-before.level _ i.levels (omega arith) at lv refl none (omega (arith, l, here))
          (level-told Description _ (omega (arith, c.if-l-gt33.false)) c.level_under.ensures);
      rest = i.rest ∙ entries-more Description _ c.loop-before.level _ i.levels (omega arith) at lv refl (length c.args.rows.now) (omega (arith, here)) none;
    }

pub returns-clause-tells : goal.returns-clause-tells
returns-clause-tells c =
    let i = c.loop-before.invariant in
    drafted-of c.args.rows.now (i.rest ∙ entries-end Description _ (c.loop-before.before + 1) (length c.args.rows.now) (omega (arith, c.loop-before-test.false)))
