-- What the promises of asking which entries fail speak of.
-- Assumes nothing.
use Rattle.std.specs.Prelude.{◌≡◌, ◌≢◌, ◌↔◌, ◌-◌, ◌<◌, ◌≤◌, ℕ, Bool, drop, get_or, length, true, List, Ok}
use Rattle.base.specs.Range.{bit}
use Rattle.blocks.specs.Encoding.{encode}
use Rattle.blocks.specs.Entries.{entries_of, nth}
use Rattle.blocks.specs.Reading.{reading_of}
use Rattle.blocks.specs.declared.Entry.{Entry}
use Rattle.blocks.specs.declared.Schema.TheVariants.{Description}
use Rattle.failings.specs.Answer.{failed_of, fails}
use Rattle.meaning.specs.Description.{place_of}
use Rattle.meaning.specs.Failing.{failing}
use Rattle.meaning.specs.Promise.{Subsumed}
use Rattle.narrow.specs.Missing.{only}
use Rattle.pairs.specs.Pairs.{under}

-- the byte of entry j of D
abbrev pub failing_byte : List ℕ → List ℕ → List ℕ → List ℕ → ℕ → ℕ
failing_byte P c d out j = get_or (failed_of P c d out) (j - 1) 0

-- every item that fits c fits a list of entries, in every finite record that keeps the pairs and the rule on links to one item
abbrev pub Says : List ℕ → List ℕ → List Entry → Type 0
Says P c es = Subsumed (under P) (place_of (entries_of c) 0) (place_of es 0)

-- What an answer that is no refusal says.
pub record FailsEach (P c d out : List ℕ) (yes : Bool) : Type 0 where
  -- [X1] whether C is contained in D
  pub answer : (yes ≡ true) ↔ Says P c (entries_of d)
  -- [X4] a byte for each entry of D, and later ones are unchanged
  pub room : length (entries_of d) ≤ length out
  pub later : drop (length (entries_of d)) (failed_of P c d out) ≡ drop (length (entries_of d)) out
  -- [X2] each is 0 or 1
  pub byte : (j : ℕ) → 1 ≤ j → j ≤ length (entries_of d) → failing_byte P c d out j ≡ bit (fails P c d j)
  -- and 0 exactly where C is contained in that entry and its owners alone, which are accepted in blocks
  pub exactly : (j : ℕ) → 1 ≤ j → j ≤ length (entries_of d) → (failing_byte P c d out j ≡ 0) ↔ Says P c (only (entries_of d) j)
  pub alone : (i j : ℕ) → reading_of Description i (encode (only (entries_of d) j)) ≡ Ok (length (only (entries_of d) j))
  -- [X3] all are 0 exactly where it is contained; that of an 'every' always
  pub none : (yes ≡ true) ↔ ((j : ℕ) → 1 ≤ j → j ≤ length (entries_of d) → failing_byte P c d out j ≡ 0)
  pub every : (j : ℕ) → 1 ≤ j → j ≤ length (entries_of d) → (nth (entries_of d) j).kind ≡ 5 → failing_byte P c d out j ≡ 0
  -- and the lowest 1 is that of the first entry that fails [C6]
  pub lowest : (j : ℕ) → j ≡ failing (under P) (entries_of c) (entries_of d) → j ≢ 0
      → (1 ≤ j) × (j ≤ length (entries_of d)) × (failing_byte P c d out j ≡ 1) × ((i : ℕ) → 1 ≤ i → i < j → failing_byte P c d out i ≡ 0)
