-- `pinned` meets its contract, for each kind by what is left of it.
use Prim.Native.Nat.{◌%◌}
use mathlib.Core.Path.{◌≡◌}
use native.Mathlib.Omega.{arith}
use Rattle.base.proofs.Tests.{tests}
use Rattle.reading.proofs.rules.KindLaws.{none-past, one-pinned}
use Rattle.reading.proofs.rules.pinned.Goals as goal

pub returns-in-0 : goal.returns-in-0
returns-in-0 c = let k = c.in-0.is in one-pinned c.args.kind (omega (tests, k)) (omega (tests, k)) (omega (tests, k))

pub returns-in-1 : goal.returns-in-1
returns-in-1 c = let k = c.in-1.is in one-pinned c.args.kind (omega (tests, k)) (omega (tests, k)) (omega (tests, k))

pub returns-in-2 : goal.returns-in-2
returns-in-2 c = let k = c.in-2.is in one-pinned c.args.kind (omega (tests, k)) (omega (tests, k)) (omega (tests, k))

pub returns-in-3 : goal.returns-in-3
returns-in-3 c = let q : c.args.kind ≡ 3 = omega (arith, c.in-3.is, c.requires) in rw q

pub returns-in-4 : goal.returns-in-4
returns-in-4 c = let q : c.args.kind ≡ 4 = omega (arith, c.in-4.is, c.requires) in rw q

pub returns-in-5 : goal.returns-in-5
returns-in-5 c = let k = c.in-5.is in one-pinned c.args.kind (omega (tests, k)) (omega (tests, k)) (omega (tests, k))

pub returns-in-6 : goal.returns-in-6
returns-in-6 c = let k = c.in-6.is in one-pinned c.args.kind (omega (tests, k)) (omega (tests, k)) (omega (tests, k))

pub returns-in-7 : goal.returns-in-7
returns-in-7 c = let q : c.args.kind ≡ 7 = omega (arith, c.in-7.is, c.requires) in rw q

pub returns-in_default : goal.returns-in_default
returns-in_default c =
    let n = c.in_default.in_default-own.rest in
    absurd (none-past (c.args.kind % 8) (omega arith) n.0.0.0.0.0.0.0.1 n.0.0.0.0.0.0.1 n.0.0.0.0.0.1 n.0.0.0.0.1 n.0.0.0.1 n.0.0.1 n.0.1 n.1)
