-- `forget` meets its contract.
use Rattle.std.proofs.Common.{refl, arith}
use Rattle.drafts.proofs.AnswerLaws.{dropped, drops-none, refuses}
use Rattle.drafts.proofs.SoundLaws.{counted, few-stands, long-enough}
use Rattle.drafts.specs.declared.Call.TheVariants as call
use Rattle.desk.proofs.calls.forget.Goals as goal

pub known_place-requires : goal.known_place-requires
known_place-requires c = few-stands c.args.desk (counted c.args.desk c.args.memory.now c.requires)

pub returns-in_default : goal.returns-in_default
returns-in_default c =
    let r = c.refused.ensures in
    refuses (call.Drop c.args.s) _ c.requires (drops-none c.args.desk c.args.memory.now c.args.s c.in_default.ensures) r.0 r.1 refl

pub copy_within-requires-clause-in_bounds : goal.copy_within-requires-clause-in_bounds
copy_within-requires-clause-in_bounds c = long-enough c.args.desk c.args.memory.now c.requires

pub copy_within-requires-clause-dest_in_bounds : goal.copy_within-requires-clause-dest_in_bounds
copy_within-requires-clause-dest_in_bounds c =
    let i = c.in-Some.ensures in omega (arith, i.2, long-enough c.args.desk c.args.memory.now c.requires)

pub returns : goal.returns
returns c =
    let r = c.left.ensures in
    let i = c.in-Some.ensures in
    dropped c.requires c.args.s c.in-Some.i i.0 (λ q. omega (arith, i.1)) c.copy_within-2.ensures.after c.copy_within-3.ensures.after r.0 r.1 c.copy_within.ensures.after
