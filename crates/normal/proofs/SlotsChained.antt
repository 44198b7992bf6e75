-- The slots of a table stand on the chains of their runs, once one pass has put them there.
-- Assumes nothing.
use Prim.Native.Nat.{◌*◌, ◌/◌, ◌<◌, ◌≤◌, ℕ}
use lib.ListN.{get_or, length, replicate}
use mathlib.Core.List.{List}
use mathlib.Core.Path.{◌≡◌}
use native.Mathlib.Omega.{arith}
use Rattle.normal.specs.code.ClassRuns.{Chained}
use Rattle.runs.proofs.ChainsMade.{chains-made, length-befores, length-lasts}
use Rattle.runs.specs.code.Chained.{befores_after, lasts_after, run_at}
use Rattle.slots.specs.code.TablePlaces.{used_in}
use Rattle.slots.specs.code.Tables.{key_in}

-- from a table of zeros, where each slot is at a place of a lower number
pub slots-chained : {t : List ℕ} (last before : List ℕ) {last' before' : List ℕ} {used : ℕ} → 1 ≤ length t
    → ((j : ℕ) → 1 ≤ j → j ≤ used_in t → key_in (get_or t j 0) / 131072 < j)
    → last ≡ replicate (length last) 0 → 2 * length t ≤ length last → length t ≤ length before
    → used ≡ used_in t → last' ≡ lasts_after t last used → before' ≡ befores_after t last before used → Chained t last' before'
slots-chained {t} last before some' lower z h k u e f =
    let fits : used_in t < length before = omega arith in
    let small : (j : ℕ) → 1 ≤ j → j ≤ used_in t → run_at t j < length last = λ j lo hi. omega (arith, lower j lo hi) in
    rw (e, f, u)
    record {
      chains = rw (length-lasts t last (used_in t)) (chains-made t last before (length last) (used_in t) z fits small);
      wide = rw (length-lasts t last (used_in t)) h;
      befores = rw (length-befores t last before (used_in t)) k;
    }
