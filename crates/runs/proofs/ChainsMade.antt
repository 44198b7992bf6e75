-- The chains of the runs, as one pass over the slots makes them.
-- Assumes nothing.
use Prim.Native.Nat.{◌<◌, ◌≤◌, suc, zero, ℕ}
use lib.ListN.{get_or, length, length-replicate, length-set, replicate}
use lib.Seq.{get_or-set_other, get_or-set_same}
use mathlib.Core.List.{List}
use mathlib.Core.Path.{◌∙◌, ◌≡◌, ap, refl}
use native.Mathlib.Omega.{arith}
use Rattle.base.proofs.ChainLaws.{chains-more, chains-start}
use Rattle.base.proofs.Lists.{zeros-read}
use Rattle.runs.specs.code.Chained.{RunChains, befores_after, lasts_after, run_at}

pub length-lasts : (t last : List ℕ) (n : ℕ) → length (lasts_after t last n) ≡ length last
unfolding lasts_after
length-lasts t last zero = refl
length-lasts t last (suc n) = length-set (lasts_after t last n) (run_at t (suc n)) (suc n) ∙ length-lasts t last n

pub length-befores : (t last before : List ℕ) (n : ℕ) → length (befores_after t last before n) ≡ length before
unfolding befores_after
length-befores t last before zero = refl
length-befores t last before (suc n) =
    length-set (befores_after t last before n) (suc n) (get_or (lasts_after t last n) (run_at t (suc n)) 0) ∙ length-befores t last before n

-- from a table of zeros the pass makes the chains
pub chains-made : (t last before : List ℕ) (w used : ℕ) → last ≡ replicate w 0 → used < length before
    → ((j : ℕ) → 1 ≤ j → j ≤ used → run_at t j < w) → RunChains t (lasts_after t last used) (befores_after t last before used) w used
unfolding lasts_after befores_after
chains-made t last before w zero e fits small = chains-start (run_at t) (λ j. get_or before j 0) (λ r b. zeros-read w e r)
chains-made t last before w (suc n) e fits small =
    let here : run_at t (suc n) < w = small (suc n) (omega arith) (omega arith) in
    let size : length (lasts_after t last n) ≡ w = length-lasts t last n ∙ ap length e ∙ length-replicate {A = ℕ} w 0 in
    let x = get_or (lasts_after t last n) (run_at t (suc n)) 0 in
    chains-more (chains-made t last before w n e (omega arith) (λ j lo hi. small j lo (omega arith))) refl
    (λ k z. refl) refl here
    (λ k z. get_or-set_other (befores_after t last before n) (suc n) k x 0 z)
    (get_or-set_same (befores_after t last before n) (suc n) x 0 (omega (arith, length-befores t last before n)))
    (λ q b z. get_or-set_other (lasts_after t last n) (run_at t (suc n)) q (suc n) 0 z)
    (get_or-set_same (lasts_after t last n) (run_at t (suc n)) (suc n) 0 (omega arith))
