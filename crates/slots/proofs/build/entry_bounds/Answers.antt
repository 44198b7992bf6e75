-- `entry_bounds` meets its contract.
use Prim.Native.Nat.{◌<◌}
use native.Mathlib.Omega.{arith}
use Rattle.slots.proofs.build.BoundsLaws.{bounds-small, high-no-bound, high-of-kind, low-of-kind}
use Rattle.slots.proofs.build.entry_bounds.Goals as goal

pub returns : goal.returns
returns c =
    let s : c.args.number < 65536 = omega arith in
    let t = c.bounds_times.ensures.0 in
    let l = c.from.ensures in
    let b = c.bounds_base.ensures.0 in
    (low-of-kind _ _ s t l b, high-of-kind _ _ s t l b, high-no-bound _ _ s t l b, bounds-small _ _ s t l b)
