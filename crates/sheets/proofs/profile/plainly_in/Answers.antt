-- `plainly_in` meets its contract.
use Rattle.std.proofs.Common.{arith}
use Rattle.base.proofs.Tests.{tests}
use Rattle.sheets.proofs.profile.ProfileLaws.{told-plainly}
use Rattle.sheets.proofs.profile.plainly_in.Goals as goal

pub returns : goal.returns
returns c =
    λ h. told-plainly c.args.e c.args.l (omega (arith, c.if-e-ne0.false)) (λ z. c.if-e-eq0.false z)
    (λ z. c.if-l-eq0.false z)
    (omega (arith, c.if-l-ge5.false)) c.head_start.ensures (omega (tests, h, c.from.ensures))
