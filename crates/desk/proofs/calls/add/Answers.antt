-- `add` meets its contract.
use Rattle.std.proofs.Common.{◌+◌, ◌<◌, ◌∙◌, ap, refl, ℕ, length, arith}
use Rattle.blocks.proofs.Refusing.LevelLaws.{level-passed}
use Rattle.blocks.specs.code.ReadingSteps.{level_by}
use Rattle.drafts.proofs.AddingLaws.{add-accepted, add-refused}
use Rattle.drafts.proofs.AnswerLaws.{added, full, refuses}
use Rattle.drafts.proofs.SoundLaws.{counted, few-entries, long-enough}
use Rattle.drafts.specs.declared.Call.TheVariants as call
use Rattle.desk.proofs.calls.add.Goals as goal

pub returns-then-desk-eq-MOST : goal.returns-then-desk-eq-MOST
returns-then-desk-eq-MOST c =
    let r = c.refused.ensures in
    refuses (call.Add c.args.e) _ c.requires.0 (full c.args.desk c.args.memory.now c.if-desk-eq-MOST.true c.args.e) r.0 r.1 refl

pub shared_ref_as_front-owner_level : goal.shared_ref_as_front-owner_level
shared_ref_as_front-owner_level c =
    let few = few-entries c.args.desk (counted c.args.desk c.args.memory.now c.requires.0) in omega (arith, few, c.from-n.ensures)

pub put_entry-requires : goal.put_entry-requires
put_entry-requires c =
    let few = few-entries c.args.desk (counted c.args.desk c.args.memory.now c.requires.0) in
    omega (arith, few, c.if-desk-eq-MOST.false, c.from-n.ensures, long-enough c.args.desk c.args.memory.now c.requires.0)

pub returns-in-Some : goal.returns-in-Some
returns-in-Some c =
    let few = few-entries c.args.desk (counted c.args.desk c.args.memory.now c.requires.0) in
    let less : c.args.desk.count < 1008 = omega (arith, few, c.if-desk-eq-MOST.false) in
    let room : c.args.desk.count + 1 < length c.args.level.now = omega (arith, less, c.told-level) in
    let lv = c.owner_level-l.ensures ∙ level-passed c.args.level.now (c.from-n.result + 1) c.args.e.owner
    ∙ ap (λ (n : ℕ). level_by c.args.level.now (n + 1) c.args.e.owner) c.from-n.ensures in
    let r = c.refused-in-Some.ensures in
    refuses (call.Add c.args.e) _ c.requires.0
    (add-refused c.args.desk c.args.memory.now c.args.e c.requires.1 room less lv c.entry_refusal.ensures c.in-Some.cause c.in-Some.is) r.0 r.1 refl

pub returns : goal.returns
returns c =
    let few = few-entries c.args.desk (counted c.args.desk c.args.memory.now c.requires.0) in
    let less : c.args.desk.count < 1008 = omega (arith, few, c.if-desk-eq-MOST.false) in
    let room : c.args.desk.count + 1 < length c.args.level.now = omega (arith, less, c.told-level) in
    let lv = c.owner_level-l.ensures ∙ level-passed c.args.level.now (c.from-n.result + 1) c.args.e.owner
    ∙ ap (λ (n : ℕ). level_by c.args.level.now (n + 1) c.args.e.owner) c.from-n.ensures in
    let r = c.left.ensures in
    added c.requires.0 c.args.e c.from-n.ensures
    (add-accepted c.args.desk c.args.memory.now c.args.e c.requires.1 room less lv c.entry_refusal.ensures c.in_default.is) r.0 r.1 c.put_entry.ensures
