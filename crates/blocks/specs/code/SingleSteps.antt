-- The steps of the pass that looks for number 9, as the code takes them. No public promise names them.
-- Assumes nothing.
use Rattle.std.specs.Prelude.{ℕ, zero, suc, Option, Some, None, ◌-◌, cond, ◌==◌}
use Rattle.blocks.specs.Faults.{Finding, Clean, Faulty}
use Rattle.blocks.specs.declared.Cause.TheVariants.{Double}

-- how many of `total` entries stand before what was found: all of them where nothing was
abbrev pub stand_before : ℕ → Finding → ℕ
stand_before total Clean = total
stand_before total (Faulty k p) = p - 1

-- what was found, unless entry d, which stands before it, breaks number 9; 0 is no entry
abbrev pub unless_single : ℕ → Finding → Finding
unless_single d f = cond (d == 0) f (Faulty Double d)

-- where a search has come to: no entry is number 0
abbrev pub place : ℕ → Option ℕ
place zero = None
place (suc k) = Some (suc k)
