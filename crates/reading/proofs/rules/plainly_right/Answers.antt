-- `plainly_right` meets its contract: where it says yes, no number applies.
use Prim.Native.Nat.{◌+◌}
use native.Mathlib.Nat.{mul-le-mul}
use native.Mathlib.Omega.{arith}
use Rattle.base.proofs.Tests.{leb-le}
use Rattle.reading.proofs.rules.WeightLaws.{look-right}
use Rattle.reading.proofs.rules.plainly_right.Goals as goal

pub returns-then-e-ne0 : goal.returns-then-e-ne0
returns-then-e-ne0 c = λ q. cc

pub returns-then-e-eq0 : goal.returns-then-e-eq0
returns-then-e-eq0 c = λ q. cc

pub returns-then-l-ge34 : goal.returns-then-l-ge34
returns-then-l-ge34 c = λ q. cc

pub returns-then-l-eq0 : goal.returns-then-l-eq0
returns-then-l-eq0 c = λ q. cc

pub overflow_mul-result : goal.overflow_mul-result
overflow_mul-result c =
    let p = mul-le-mul {n₁ = c.weight_of.result} {m₁ = c.from.result + 1} {n₂ = 2} {m₂ = 65536} c.weight_of.ensures.0 (omega (arith, c.from.ensures)) in
    omega arith

pub returns : goal.returns
returns c =
    let a = c.args in
    λ q. look-right a.schema a.e a.l c.weight_of.ensures c.if-e-ne0.false c.if-e-eq0.false
    (omega (arith, c.if-l-ge34.false)) c.if-l-eq0.false (rw c.from.ensures at (leb-le q))
