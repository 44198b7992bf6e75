-- Lists whose entries are tried, in tables, and sets of entries as tables of marks.
-- Assumes nothing.
use Rattle.std.specs.Prelude.{◌+◌, ◌<◌, ◌≤◌, suc, ℕ, drop, eqb, get_or, length, map, take, Bool, true, List, ◌++◌, ◌≡◌}
use Rattle.blocks.proofs.Refusing.Bounds.{AllBounded}
use Rattle.blocks.specs.Entries.{nth, packed}
use Rattle.blocks.specs.Promise.{Legal}
use Rattle.blocks.specs.declared.Entry.{Entry}
use Rattle.blocks.specs.declared.Schema.TheVariants.{Description}
use Rattle.logic.specs.Background.{Background}
use Rattle.meaning.specs.Failing.{failing}
use Rattle.narrow.specs.Earned.{sayers}
use Rattle.narrow.specs.Keeping.{keep_from, thinned}
use Rattle.unfolding.specs.code.Rows.{entry_of_row}

-- the set that a table of marks stands for; what is past its end is in it
abbrev pub set_of : List Bool → ℕ → Bool
set_of t k = get_or t k true

-- the entries of a list stand in a table from index s on, packed
pub record Packed (es : List Entry) (t : List ℕ) (s : ℕ) : Type 0 where
  pub each : (i : ℕ) → i < length es → get_or t (s + i) 0 ≡ packed (nth es (suc i))
  pub bounded : AllBounded es

-- a table has the s entries that are never left out, and behind them the n that are tried
pub record Listed (pre es : List Entry) (t : List ℕ) (s n : ℕ) : Type 0 where
  pub before : s ≡ length pre
  pub count : n ≡ length es
  pub front : Packed pre t 0
  pub rest : Packed es t s
  pub legal : (K : ℕ → Bool) → Legal Description (pre ++ thinned K 1 es)

-- the entries that the first s numbers of a table stand for, and those that the n after these do
abbrev pub front_in : List ℕ → ℕ → List Entry
front_in t s = map entry_of_row (take s t)

abbrev pub rest_in : List ℕ → ℕ → ℕ → List Entry
rest_in t s n = map entry_of_row (take n (drop s t))

-- what is left of them is contained in d
abbrev pub enough : Background → List Entry → List Entry → List Entry → (ℕ → Bool) → Bool
enough b pre es d K = eqb (failing b (pre ++ thinned K 1 es) d) 0

-- a test that holds of a set where it holds of a part of it
abbrev pub Grows : ((ℕ → Bool) → Bool) → Type 0
Grows P = (K L : ℕ → Bool) → ((k : ℕ) → K k ≡ true → L k ≡ true) → P K ≡ true → P L ≡ true

-- a set where the entries up to number n are not decided yet: those that may be left out are all there
abbrev pub Open : List Entry → ℕ → (ℕ → Bool) → Type 0
Open es n K = (k : ℕ) → 1 ≤ k → k ≤ n → K k ≡ sayers es k

-- leaving out goes on from entry m with L as it would have from entry n with K
pub record Turned (P : (ℕ → Bool) → Bool) (es : List Entry) (n : ℕ) (K : ℕ → Bool) (m : ℕ) (L : ℕ → Bool) : Type 0 where
  pub same : keep_from P n K ≡ keep_from P m L
  pub open' : Open es m L
