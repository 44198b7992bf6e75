-- `act` by value meets its contract.
use Rattle.std.proofs.Common.{◌∙◌, sym, refl}
use Rattle.drafts.proofs.AnswerLaws.{given-none}
use Rattle.desk.proofs.calls.act.Goals as goal

pub returns-then-not-is_sound : goal.returns-then-not-is_sound
returns-then-not-is_sound c = let r = c.refused.ensures in given-none c.args.call (sym c.is_sound.ensures.tells ∙ c.if-not-is_sound.true) r.0 r.1 refl
