-- What the promises on delivered records speak of: where one is refused, and what one has that is not.
-- Assumes nothing.
use Rattle.std.specs.Prelude.{◌≡◌, ◌≤◌, ℕ, length, true, false, List, ◌⊎◌}
use Rattle.blocks.specs.Entries.{nth}
use Rattle.blocks.specs.Promise.{FirstOf, NoneApplies}
use Rattle.blocks.specs.declared.Cause.{Cause}
use Rattle.blocks.specs.declared.Entry.{Entry}
use Rattle.delivered.specs.Reading.{another, delivered_faults, form_ok, items_ok}
use Rattle.pairs.specs.Pairs.{pair_faults}

-- each entry of a record of `total` items has an allowed form and item numbers from 1 to the total [J5]
pub record LegalRecord (total : ℕ) (es : List Entry) : Type 0 where
  pub form : (n : ℕ) → 1 ≤ n → n ≤ length es → form_ok (nth es n) ≡ true
  pub items : (n : ℕ) → 1 ≤ n → n ≤ length es → items_ok total (nth es n) ≡ true

-- no entry leads by a single link to a second item [R9]
pub record OneEach (es : List Entry) : Type 0 where
  pub each : (n : ℕ) → 1 ≤ n → n ≤ length es → another es n ≡ false

-- a refusal with cause k, of input i, at place p: by the list's first fault, of input 0; or else by the record's, of
-- input 1
abbrev pub DeliveredRefusedBy : List ℕ → ℕ → List ℕ → Cause → ℕ → ℕ → Type 0
DeliveredRefusedBy P total s k i p =
    ((i ≡ 0) × FirstOf (pair_faults P) k p) ⊎ (NoneApplies (pair_faults P) × ((i ≡ 1) × FirstOf (delivered_faults P total s) k p))
