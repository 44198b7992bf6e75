-- `search` meets its contract: where the search for a cell ends, there is the slot of the key, if one is.
use Rattle.std.proofs.Common.{◌≡◌, ◌≤◌, ◌∙◌, ℕ, not, eqb, refl, arith, unwrap_or, IfSome}
use Rattle.std.specs.Bool.{then_some}
use Rattle.base.proofs.Tests.{eq-cases, eq-eqb, ne_eqb}
use Rattle.slots.proofs.slots.Slots.search.Goals as goal

-- the number that is there, or none
there : (s : ℕ) → (unwrap_or (then_some (not (eqb s 0)) s) 0 ≡ s) × IfSome (then_some (not (eqb s 0)) s) (λ (k : ℕ). 1 ≤ k)
there s = eq-cases s 0 (λ q. rw (eq-eqb q, q) (refl, tt)) (λ q. rw (ne_eqb q) (refl, omega arith))

pub returns : goal.returns
returns g c =
    let t = there c.from-s.result in
    rw c.then_some.ensures (t.0 ∙ c.from-s.ensures ∙ c.args.self.kept.at _ _ c.cell_for.ensures.0, t.1)
