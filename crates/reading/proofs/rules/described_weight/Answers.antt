-- `described_weight` meets its contract, kind by kind.
use mathlib.Core.Path.{refl}
use native.Mathlib.Omega.{arith}
use Rattle.blocks.specs.declared.Schema.{Schema}
use Rattle.reading.proofs.rules.WeightLaws.{weighs-none, weighs-one, weighs-two}
use Rattle.reading.proofs.rules.described_weight.Goals as goal

pub returns-in-1 : goal.returns-in-1
returns-in-1 c = rw c.in-1.is (weighs-one Schema.Description 1 6 refl (omega arith))

pub returns-in-2 : goal.returns-in-2
returns-in-2 c = rw c.in-2.is (weighs-one Schema.Description 2 6 refl (omega arith))

pub returns-in-3 : goal.returns-in-3
returns-in-3 c = rw c.in-3.is (weighs-none Schema.Description 3 6 refl (omega arith) refl)

pub returns-in-4 : goal.returns-in-4
returns-in-4 c = rw c.in-4.is (weighs-none Schema.Description 4 6 refl (omega arith) refl)

pub returns-in-5 : goal.returns-in-5
returns-in-5 c = rw c.in-5.is (weighs-one Schema.Description 5 6 refl (omega arith))

pub returns-in_default : goal.returns-in_default
returns-in_default c = weighs-two Schema.Description c.args.kind 6
