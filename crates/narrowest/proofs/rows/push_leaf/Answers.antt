-- `push_leaf` meets its contract: the packed entry is that of its row.
use mathlib.Core.List.{[], ◌∷◌}
use mathlib.Core.Path.{◌∙◌, ap, refl}
use Prim.Native.Nat.{ℕ}
use Rattle.narrowest.proofs.rows.CountLaws.{counted-as}
use Rattle.narrowest.proofs.rows.push_leaf.Goals as goal

pub returns : goal.returns
returns c = counted-as c.push.ensures refl (ap (λ (y : ℕ). y ∷ []) (c.pack-x.ensures ∙ rw c.number.ensures refl))
