-- `grouped_weight` meets its contract, kind by kind.
use mathlib.Core.Path.{refl}
use native.Mathlib.Omega.{arith}
use Rattle.blocks.specs.declared.Schema.{Schema}
use Rattle.reading.proofs.rules.WeightLaws.{weighs-none, weighs-one, weighs-two}
use Rattle.reading.proofs.rules.grouped_weight.Goals as goal

pub returns-in-1 : goal.returns-in-1
returns-in-1 c = rw c.in-1.is (weighs-one Schema.Specimen 1 8 refl (omega arith))

pub returns-in-7 : goal.returns-in-7
returns-in-7 c = rw c.in-7.is (weighs-none Schema.Specimen 7 8 refl (omega arith) refl)

pub returns-in_default : goal.returns-in_default
returns-in_default c = weighs-two Schema.Specimen c.args.kind 8
