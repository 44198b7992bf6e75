-- `push_knot` meets its contract: the code is noted where the row finds room.
use Prim.Native.Nat.{ℕ, ◌%◌}
use mathlib.Core.List.{[], ◌∷◌}
use mathlib.Core.Path.{ap, refl}
use Rattle.narrowest.proofs.links.KnotLaws.{knotted-one, knotted-past}
use Rattle.narrowest.proofs.rows.CountLaws.{counted-as}
use Rattle.narrowest.proofs.links.push_knot.Goals as goal

pub returns-then-rows-k : goal.returns-then-rows-k
returns-then-rows-k c =
    knotted-past c.args.owner (c.args.l % 65536) _ (counted-as c.push-k.ensures refl (ap (λ (y : ℕ). y ∷ []) c.pack-x.ensures)) c.if-rows-k.true

pub returns : goal.returns
returns c =
    knotted-one c.args.owner (c.args.l % 65536) _ (counted-as c.push-k.ensures refl (ap (λ (y : ℕ). y ∷ []) c.pack-x.ensures)) c.if-rows-k.false c.below.ensures
