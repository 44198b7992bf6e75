-- `name` meets its contract.
use Rattle.std.proofs.Common.{◌∙◌, sym, refl, arith}
use Rattle.drafts.proofs.AnswerLaws.{named, names-fifth, names-zero, refuses}
use Rattle.drafts.proofs.SoundLaws.{counted, few-entries, few-stands, long-enough}
use Rattle.drafts.specs.declared.Call.TheVariants as call
use Rattle.desk.proofs.calls.name.Goals as goal

pub returns-then-s-eq0 : goal.returns-then-s-eq0
returns-then-s-eq0 c =
    let r = c.refused.ensures in
    refuses (call.Name c.args.s) _ c.requires (names-zero c.args.desk c.args.memory.now c.args.s c.if-s-eq0.true) r.0 r.1 refl

pub place_in-i-requires : goal.place_in-i-requires
place_in-i-requires c = few-stands c.args.desk (counted c.args.desk c.args.memory.now c.requires)

pub returns-then-i-eq4 : goal.returns-then-i-eq4
returns-then-i-eq4 c =
    let r = c.refused-then-i-eq4.ensures in
    let few = few-stands c.args.desk (counted c.args.desk c.args.memory.now c.requires) in
    refuses (call.Name c.args.s) _ c.requires
    (names-fifth c.args.desk c.args.memory.now c.args.s few c.if-s-eq0.false (sym c.place_in-i.ensures.0 ∙ c.if-i-eq4.true)) r.0 r.1 refl

pub copy_within-requires-clause-in_bounds : goal.copy_within-requires-clause-in_bounds
copy_within-requires-clause-in_bounds c =
    let few = few-entries c.args.desk (counted c.args.desk c.args.memory.now c.requires) in
    omega (arith, c.from.ensures, few, long-enough c.args.desk c.args.memory.now c.requires)

pub copy_within-requires-clause-dest_in_bounds : goal.copy_within-requires-clause-dest_in_bounds
copy_within-requires-clause-dest_in_bounds c =
    let C = counted c.args.desk c.args.memory.now c.requires in
    omega (arith, c.from.ensures, few-entries c.args.desk C, few-stands c.args.desk C, c.place_in-i.ensures.1, c.if-i-eq4.false, long-enough c.args.desk c.args.memory.now c.requires)

pub bounds-names-i : goal.bounds-names-i
bounds-names-i c = let few = few-stands c.args.desk (counted c.args.desk c.args.memory.now c.requires) in omega (arith, few, c.place_in-i.ensures.1, c.if-i-eq4.false)

pub bounds-counts-i : goal.bounds-counts-i
bounds-counts-i c = let few = few-stands c.args.desk (counted c.args.desk c.args.memory.now c.requires) in omega (arith, few, c.place_in-i.ensures.1, c.if-i-eq4.false)

pub overflow_add-i-2 : goal.overflow_add-i-2
overflow_add-i-2 c = let few = few-stands c.args.desk (counted c.args.desk c.args.memory.now c.requires) in omega (arith, few, c.place_in-i.ensures.1)

pub returns : goal.returns
returns c =
    let r = c.left.ensures in
    let few = few-stands c.args.desk (counted c.args.desk c.args.memory.now c.requires) in
    named c.requires c.args.s c.place_in-i.result c.place_in-i.ensures.0 few c.if-s-eq0.false c.if-i-eq4.false c.from.ensures c.max.ensures r.0 r.1 c.copy_within.ensures.after
