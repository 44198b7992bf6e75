-- Laws of putting a slot on the chain of its run.
-- Assumes nothing.
use Prim.Native.Nat.{◌+◌, ℕ}
use lib.ListN.{get_or, set}
use mathlib.Core.List.{List}
use mathlib.Core.Path.{◌≡◌}
use native.Mathlib.Numerals.{add-one}
use Rattle.runs.specs.code.Chained.{befores_after, lasts_after, run_in}

module _ (t last₀ before₀ : List ℕ) (m n : ℕ) (q : n ≡ m + 1) {last : List ℕ} {at x r : ℕ} (l : last ≡ lasts_after t last₀ m) (i : at ≡ n)
    (e : x ≡ get_or t at 0) (f : r ≡ run_in x) where
  -- it is the last of its run
  pub lasts-more : {last' : List ℕ} → last' ≡ set last r n → last' ≡ lasts_after t last₀ n
  unfolding lasts_after
  lasts-more h = rw (h, f, e, i, l, q, add-one, lasts_after)

  -- and the one that was the last stands before it
  pub befores-more : {before before' : List ℕ} {y : ℕ} → before ≡ befores_after t last₀ before₀ m → y ≡ get_or last r 0 → before' ≡ set before at y
      → before' ≡ befores_after t last₀ before₀ n
  unfolding befores_after
  befores-more b g h = rw (h, b, g, f, e, i, l, q, add-one, befores_after)
