-- `together` meets its contract: all entries stay.
use mathlib.Core.List.{map}
use mathlib.Core.Path.{◌∙◌}
use native.Mathlib.Omega.{arith}
use Rattle.blocks.specs.Entries.{entries_of}
use Rattle.earning.proofs.AttemptLaws.{all-marked, all-together}
use Rattle.earning.proofs.TriedLaws.{listed-again}
use Rattle.narrow.specs.Missing.{shifted}
use Rattle.pairs.specs.Pairs.{under}
use Rattle.earning.proofs.attempt.together.Goals as goal

pub invariant_of-tried-clause-listed : goal.invariant_of-tried-clause-listed
invariant_of-tried-clause-listed c = listed-again (omega (arith, c.args.attempt.few, c.load.auto)) c.load.ensures

pub returns : goal.returns
returns c =
    let a = c.args.attempt in
    let F = entries_of a.stays.bytes.now in
    let T = entries_of a.tried.bytes.now in
    let B = map (shifted a.stays.total) T in
    (rw (c.ask-service.ensures.0, c.ask-service.ensures.1) at c.passes.ensures) F B c.load.ensures
    ∙ all-together (under a.service.pairs.now) F T (entries_of a.service.d.now) a.stays.counted _ (all-marked B 1)
