-- The run and the name of a slot, and the chains of the runs. No public promise names these.
-- Assumes nothing.
use Rattle.std.specs.Prelude.{◌%◌, ◌/◌, suc, zero, ℕ, get_or, set, List}
use Rattle.base.specs.Chain.{Chains}
use Rattle.slots.specs.code.Tables.{key_in}

-- the run of a slot: twice its place, and one more where its name is a link's
abbrev pub run_in : ℕ → ℕ
run_in x = key_in x / 65536

-- the name of a slot
abbrev pub slot_name : ℕ → ℕ
slot_name x = key_in x % 65536

-- the run of slot j of a table
abbrev pub run_at : List ℕ → ℕ → ℕ
run_at t j = run_in (get_or t j 0)

-- the last slot of each run, after the slots 1 to n
unfoldable pub lasts_after : List ℕ → List ℕ → ℕ → List ℕ
lasts_after t last zero = last
lasts_after t last (suc n) = set (lasts_after t last n) (run_at t (suc n)) (suc n)

-- for each slot the one before it in its run, after the slots 1 to n
unfoldable pub befores_after : List ℕ → List ℕ → List ℕ → ℕ → List ℕ
befores_after t last before zero = before
befores_after t last before (suc n) = set (befores_after t last before n) (suc n) (get_or (lasts_after t last n) (run_at t (suc n)) 0)

-- the tables `last` and `before` are the chains of the slots 1 to `used`, of which each run is below w
abbrev pub RunChains : List ℕ → List ℕ → List ℕ → ℕ → ℕ → Type 0
RunChains t last before w used = Chains (run_at t) (λ j. get_or before j 0) (λ r. get_or last r 0) w used
