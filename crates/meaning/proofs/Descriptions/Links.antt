-- The links that lead to an entry: those into the place of its owner.
-- Assumes nothing.
use Prim.Native.Nat.{◌<◌, ◌≤◌, suc, zero, ℕ}
use lib.Dec.{eqb}
use lib.ListN.{length}
use mathlib.Core.Bool.{cond}
use mathlib.Core.List.{List, [], ◌++◌, ◌∷◌}
use mathlib.Core.Path.{◌≡◌}
use native.Mathlib.Omega.{arith}
use Rattle.base.proofs.Tests.{eq-cases, eq-eqb, ne_eqb}
use Rattle.blocks.specs.Entries.{nth}
use Rattle.blocks.specs.Owners.{owner_of}
use Rattle.blocks.specs.declared.Entry.{Entry}
use Rattle.meaning.specs.Description.{links_to, links_up}

-- the links into the place that entry o owns
unfoldable pub links_into : List Entry → ℕ → List ℕ
links_into d o = cond (eqb o 0) [] (links_to d o ++ ((nth d o).name ∷ []))

module _ (d : List Entry) (early : (k : ℕ) → 1 ≤ k → k ≤ length d → owner_of d k < k) where
  -- the links up do not depend on the steps, if they reach the top
  links-steps : (f g k : ℕ) → 1 ≤ k → k ≤ length d → k ≤ f → k ≤ g → links_up d f k ≡ links_up d g k
  unfolding links_up
  links-steps zero g k lo hi a b = absurd (omega arith)
  links-steps (suc f) zero k lo hi a b = absurd (omega arith)
  links-steps (suc f) (suc g) k lo hi a b =
      let o = early k lo hi in
      eq-cases (owner_of d k) 0
      (λ z. rw (eq-eqb z))
      (λ z. rw (ne_eqb z, links-steps f g (owner_of d k) (omega arith) (omega arith) (omega arith) (omega arith)))

  -- the links to an entry lead into the place of its owner
  pub links-into : (n : ℕ) → 1 ≤ n → n ≤ length d → links_to d n ≡ links_into d (owner_of d n)
  unfolding links_to links_up links_into
  links-into zero lo hi = absurd (omega arith)
  links-into (suc n) lo hi =
      let o = early (suc n) lo hi in
      eq-cases (owner_of d (suc n)) 0
      (λ z. rw (eq-eqb z))
      (λ z.
      let r = links-steps n (owner_of d (suc n)) (owner_of d (suc n)) (omega arith) (omega arith) (omega arith) (omega arith) in
      rw (ne_eqb z, r))
