-- `push_own` meets its contract: an 'every' is passed.
use Prim.Native.Nat.{ℕ}
use mathlib.Core.List.{[], ◌∷◌}
use mathlib.Core.Path.{◌∙◌, ap, refl}
use Rattle.narrowest.proofs.placed.PlacedLaws.{own-atom, own-every}
use Rattle.narrowest.proofs.rows.CountLaws.{counted-as}
use Rattle.narrowest.proofs.placed.push_own.Goals as goal

pub returns-then-e-eq-EVERY : goal.returns-then-e-eq-EVERY
returns-then-e-eq-EVERY c = own-every c.args.owner c.entry_of_row-e.ensures c.requires c.if-e-eq-EVERY.true

pub returns : goal.returns
returns c =
    counted-as c.push.ensures refl
    (ap (λ (y : ℕ). y ∷ []) c.pack-y.ensures ∙ own-atom c.args.owner c.entry_of_row-e.ensures c.if-e-eq-EVERY.false c.kind_said.ensures)
