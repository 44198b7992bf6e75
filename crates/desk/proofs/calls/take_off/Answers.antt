-- `take_off` meets its contract.
use Rattle.std.proofs.Common.{refl}
use Rattle.drafts.proofs.AnswerLaws.{refuses, takes-none, takes-off}
use Rattle.drafts.specs.declared.Call.TheVariants as call
use Rattle.desk.proofs.calls.take_off.Goals as goal

pub returns-then-desk-eq0 : goal.returns-then-desk-eq0
returns-then-desk-eq0 c =
    let r = c.refused.ensures in refuses call.TakeOff _ c.requires (takes-none c.args.desk c.args.memory.now c.if-desk-eq0.true) r.0 r.1 refl

pub returns : goal.returns
returns c = let r = c.left.ensures in takes-off c.requires c.if-desk-eq0.false r.0 r.1 refl
