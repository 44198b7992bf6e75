-- `sheet_refusal` meets its contract.
use Rattle.std.proofs.Common.{ap, not, arith}
use Rattle.base.proofs.Tests.{confirmed, refuted}
use Rattle.sheets.proofs.profile.ProfileLaws.{inside-profile, outside-depth, outside-kind, refused-plainly}
use Rattle.sheets.proofs.profile.sheet_refusal.Goals as goal

pub returns-in-Some : goal.returns-in-Some
returns-in-Some c = refused-plainly c.args.e c.args.l c.entry_refusal.ensures c.in-Some.is

pub returns-then-not-in_profile : goal.returns-then-not-in_profile
returns-then-not-in_profile c =
    outside-kind c.args.e c.args.l c.entry_refusal.ensures c.in_default.is
    (refuted c.in_profile.ensures (ap not c.if-not-in_profile.true))

pub returns-then-l-gt4 : goal.returns-then-l-gt4
returns-then-l-gt4 c =
    outside-depth c.args.e c.args.l c.entry_refusal.ensures c.in_default.is
    (confirmed c.in_profile.ensures (ap not c.if-not-in_profile.false)) c.if-l-gt4.true

pub returns : goal.returns
returns c =
    inside-profile c.args.e c.args.l c.entry_refusal.ensures c.in_default.is
    (confirmed c.in_profile.ensures (ap not c.if-not-in_profile.false)) (omega (arith, c.if-l-gt4.false))
