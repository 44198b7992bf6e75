-- What the promises on specimens under a list speak of: where one is refused, and which one is not.
-- Assumes nothing.
use Rattle.std.specs.Prelude.{◌<◌, ◌≤◌, ℕ, length, ltb, Bool, ◌&&◌, false, not, true, List, ◌⊎◌, ◌≡◌}
use Rattle.blocks.specs.Owners.{owner_of}
use Rattle.blocks.specs.Promise.{FirstOf, NoneApplies}
use Rattle.blocks.specs.declared.Cause.{Cause}
use Rattle.blocks.specs.declared.Entry.{Entry}
use Rattle.clashes.specs.Clash.{completes, specimen_faults}
use Rattle.logic.specs.Record.{Record}
use Rattle.pairs.specs.Pairs.{excludes_in, pair_faults}

-- a refusal with cause k, of input i, at place p: by the list's first fault, of input 0; or else by the specimen's, of input 1
abbrev pub RefusedBy : List ℕ → List ℕ → Cause → ℕ → ℕ → Type 0
RefusedBy P s k i p = ((i ≡ 0) × FirstOf (pair_faults P) k p) ⊎ (NoneApplies (pair_faults P) × ((i ≡ 1) × FirstOf (specimen_faults P s) k p))

-- [R12] the lowest entry that completes a pair
pub record LowestClash (P : List ℕ) (es : List Entry) (p : ℕ) : Type 0 where
  pub from : 1 ≤ p
  pub to : p ≤ length es
  pub clashes : completes P es p ≡ true
  pub before : (j : ℕ) → 1 ≤ j → j < p → completes P es j ≡ false

-- the contrary of number 12 at entry n
abbrev pub apart_ok : List ℕ → List Entry → ℕ → Bool
apart_ok P es n = not (completes P es n)

-- of those whose owners are below m
abbrev pub apart_below : ℕ → List ℕ → List Entry → ℕ → Bool
apart_below m P es n = not (ltb (owner_of es n) m && completes P es n)

-- no entry completes a pair
pub record Apart (P : List ℕ) (es : List Entry) : Type 0 where
  pub each : (n : ℕ) → 1 ≤ n → n ≤ length es → apart_ok P es n ≡ true

-- no item of a record has both of two properties that exclude each other under the list
abbrev pub ExclusionsKept : List ℕ → Record → Type 0
ExclusionsKept P r = (p q x : ℕ) → excludes_in P p q ≡ true → x < r.size → (r.property p x && r.property q x) ≡ false
