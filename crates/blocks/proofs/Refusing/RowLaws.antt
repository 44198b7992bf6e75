-- Lists of lines of the table of refusals: none of those of many entries applies exactly where none of those of each does.
-- Assumes nothing.
use Rattle.std.proofs.Common.{ℕ, zero, suc, ◌+◌, ◌<◌, ◌≤◌, List, [], ◌∷◌, ◌++◌, arith}
use Rattle.base.proofs.Tests.{eq-cases}
use Rattle.blocks.specs.Faults.{Fault, rows_from}
use Rattle.blocks.specs.Promise.{NoneApplies}

-- ---- lists of lines

pub none-split : (fs gs : List Fault) → NoneApplies (fs ++ gs) → NoneApplies fs × NoneApplies gs
unfolding NoneApplies
none-split [] gs h = (tt, h)
none-split (f ∷ fs) gs h = let r = none-split fs gs h.1 in ((h.0, r.0), r.1)

pub none_both : (fs gs : List Fault) → NoneApplies fs → NoneApplies gs → NoneApplies (fs ++ gs)
unfolding NoneApplies
none_both [] gs p q = q
none_both (f ∷ fs) gs p q = (p.0, none_both fs gs p.1 q)

module _ (rows : ℕ → List Fault) where
  -- none of many entries applies, so none of each, and the other way round
  pub none_each : (n left : ℕ) → NoneApplies (rows_from rows n left) → (k : ℕ) → n ≤ k → k < n + left → NoneApplies (rows k)
  unfolding rows_from
  none_each n zero h k lo hi = absurd (omega arith)
  none_each n (suc left) h k lo hi =
      let r = none-split (rows n) (rows_from rows (suc n) left) h in
      eq-cases k n (λ q. rw q r.0) (λ q. none_each (suc n) left r.1 k (omega arith) (omega arith))

  pub each_none : (n left : ℕ) → ((k : ℕ) → n ≤ k → k < n + left → NoneApplies (rows k)) → NoneApplies (rows_from rows n left)
  unfolding rows_from NoneApplies
  each_none n zero h = tt
  each_none n (suc left) h =
      none_both (rows n) (rows_from rows (suc n) left) (h n (omega arith) (omega arith))
      (each_none (suc n) left (λ k lo hi. h k (omega arith) (omega arith)))
