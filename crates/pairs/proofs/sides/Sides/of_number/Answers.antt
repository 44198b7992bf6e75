-- `of_number` meets its contract: number k is of pair (k + 1) / 2, its first where k is odd.
use Rattle.std.proofs.Common.{arith}
use Rattle.base.proofs.Tests.{tests}
use Rattle.pairs.proofs.SidesLaws.{single-bit}
use Rattle.pairs.proofs.sides.Sides.of_number.Goals as goal

pub returns-clause-first : goal.returns-clause-first
returns-clause-first c i =
    single-bit (omega (arith, c.from.ensures)) (omega arith)
    (λ h. (omega (tests, h), omega (tests, h, c.from.ensures)))
    (λ h one. omega (tests, h, one, c.from.ensures))

pub returns-clause-second : goal.returns-clause-second
returns-clause-second c i =
    single-bit (omega (arith, c.from-2.ensures)) (omega arith)
    (λ h. (omega (tests, h), omega (tests, h, c.from-2.ensures)))
    (λ h one. omega (tests, h, one, c.from-2.ensures))
