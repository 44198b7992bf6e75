-- `named_kind` meets its contract, test by test.
use lib.Dec.{eqb, ltb}
use mathlib.Core.Bool.{false}
use mathlib.Core.Path.{◌≡◌}
use Rattle.base.proofs.Tests.{bool_cases, gt-leb, le-leb, tests}
use Rattle.reading.proofs.rules.named_kind.Goals as goal

pub returns-then-kind-le-NOTHING : goal.returns-then-kind-le-NOTHING
returns-then-kind-le-NOTHING c =
    let k = c.args.kind in
    let z : eqb k 9 ≡ false = omega (tests, c.if-kind-le-NOTHING.true) in
    rw (z, le-leb c.if-kind-le-NOTHING.true) (bool_cases (ltb 0 k) (λ y. rw y) (λ y. rw y))

pub returns : goal.returns
returns c =
    let k = c.args.kind in
    rw (gt-leb c.if-kind-le-NOTHING.false) (bool_cases (eqb k 9) (λ y. rw y) (λ y. rw y (bool_cases (ltb 0 k) (λ z. rw z) (λ z. rw z))))
