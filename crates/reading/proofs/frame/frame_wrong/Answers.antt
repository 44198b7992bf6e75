-- `frame_wrong` meets its contract, one law for each way through its tests.
use Rattle.std.proofs.Common.{ap, not, ◌∙◌}
use native.Mathlib.Omega.{arith}
use Rattle.base.proofs.Tests.{confirmed, refuted}
use Rattle.blocks.proofs.Refusing.BlockLaws.{number-wrong, rest-decides, used-at-most, used-bytes, used-wrong}
use Rattle.blocks.specs.Frame.{framed}
use Rattle.reading.proofs.frame.frame_wrong.Goals as goal

pub returns-then-from-i : goal.returns-then-from-i
returns-then-from-i g c = number-wrong _ _ _ _ (c.from.ensures ∙ c.word.ensures) c.if-from-i.true

pub returns-then-not-used_ok : goal.returns-then-not-used_ok
returns-then-not-used_ok g c =
    used-wrong _ _ _ _ (c.from.ensures ∙ c.word.ensures) c.if-from-i.false (c.from-used.ensures ∙ c.word-2.ensures)
    (refuted c.used_ok.ensures (ap not c.if-not-used_ok.true))

pub all_zero-requires : goal.all_zero-requires
all_zero-requires g c =
    let u = used-bytes g.row.WIDTH c.requires.0 (used-at-most _ _ _ (confirmed c.used_ok.ensures (ap not c.if-not-used_ok.false))) in omega arith

pub returns : goal.returns
returns g c =
    rest-decides (framed g.row.WIDTH g.row.ROOM) _ _ _ (c.from.ensures ∙ c.word.ensures) c.if-from-i.false
    (c.from-used.ensures ∙ c.word-2.ensures) c.requires.0 (confirmed c.used_ok.ensures (ap not c.if-not-used_ok.false)) c.all_zero.ensures
