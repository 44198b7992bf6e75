-- `asked_items` meets its contract, by where the target stands and by the entry's kind.
use Prim.Native.Nat.{◌*◌, ◌+◌}
use mathlib.Core.Path.{refl}
use native.Mathlib.Omega.{arith}
use Rattle.compare.proofs.asked.TargetLaws.{most-asked, next-asked, nothing-asked, nothing-other}
use Rattle.compare.proofs.path.Path.asked_items.Goals as goal

pub returns-then-target-eq0 : goal.returns-then-target-eq0
returns-then-target-eq0 c = nothing-asked _ _ _ c.if-target-eq0.true

pub returns-then-target-depth : goal.returns-then-target-depth
returns-then-target-depth c =
    let k = c.link.type_inv in
    let d = c.depth-depth.ensures in
    next-asked _ _ (record { link = c.link.result; count = 1; code = 1024 * (c.args.target + 1); few = omega arith; near = omega (arith, d, c.if-target-depth.true, c.args.self.now.short) }) c.if-target-eq0.false (omega (arith, d, c.if-target-depth.true)) (rw d at c.link.ensures) (omega (arith, k)) refl refl

pub returns-then-e-ne-AT_MOST : goal.returns-then-e-ne-AT_MOST
returns-then-e-ne-AT_MOST c =
    nothing-other _ c.args.self.now.entry (omega (arith, c.depth-depth.ensures, c.if-target-depth.false)) c.requires c.if-e-ne-AT_MOST.true

pub returns : goal.returns
returns c =
    let k = c.link-2.type_inv in
    most-asked _ c.args.self.now.entry (record { link = c.link-2.result; count = c.from.result + 1; code = 0; few = omega (arith, c.from.type_inv); near = omega arith }) (omega (arith, c.depth-depth.ensures, c.if-target-depth.false)) c.requires c.if-e-ne-AT_MOST.false c.link-2.ensures (omega (arith, k)) (omega (arith, c.from.ensures)) refl
