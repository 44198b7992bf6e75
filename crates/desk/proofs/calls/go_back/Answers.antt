-- `go_back` meets its contract.
use Rattle.std.proofs.Common.{refl, arith}
use Rattle.drafts.proofs.AnswerLaws.{goes-nowhere, refuses, went-back}
use Rattle.drafts.proofs.SoundLaws.{counted, few-kept, few-stands, long-enough}
use Rattle.drafts.specs.declared.Call.TheVariants as call
use Rattle.desk.proofs.calls.go_back.Goals as goal

pub known_place-requires : goal.known_place-requires
known_place-requires c = few-stands c.args.desk (counted c.args.desk c.args.memory.now c.requires)

pub returns-in_default : goal.returns-in_default
returns-in_default c =
    let r = c.refused.ensures in
    refuses (call.GoBack c.args.s) _ c.requires (goes-nowhere c.args.desk c.args.memory.now c.args.s c.in_default.ensures) r.0 r.1 refl

pub copy_within-requires-clause-in_bounds : goal.copy_within-requires-clause-in_bounds
copy_within-requires-clause-in_bounds c =
    let i = c.in-Some.ensures in
    let few = few-kept c.args.desk (counted c.args.desk c.args.memory.now c.requires) c.in-Some.i i.1 in
    omega (arith, i.2, few, c.from.ensures, long-enough c.args.desk c.args.memory.now c.requires)

pub copy_within-requires-clause-dest_in_bounds : goal.copy_within-requires-clause-dest_in_bounds
copy_within-requires-clause-dest_in_bounds c =
    let i = c.in-Some.ensures in
    let few = few-kept c.args.desk (counted c.args.desk c.args.memory.now c.requires) c.in-Some.i i.1 in
    omega (arith, i.2, few, c.from.ensures, long-enough c.args.desk c.args.memory.now c.requires)

pub returns : goal.returns
returns c =
    let r = c.left.ensures in
    let i = c.in-Some.ensures in
    went-back c.requires c.args.s c.in-Some.i i.0 (λ q. omega (arith, i.1)) c.from.ensures r.0 r.1 c.copy_within.ensures.after
