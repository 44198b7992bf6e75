-- What asking which entries fail says beside the single comparison.
-- Assumes nothing.
use Rattle.std.specs.Prelude.{◌+◌, ◌<◌, ◌≤◌, ◌≡◌, ◌↔◌, ℕ, Bool, length, List, [], Ok, None}
use Rattle.blocks.specs.Encoding.{encode}
use Rattle.blocks.specs.Entries.{entries_of}
use Rattle.compare.specs.Answer.{not_contained}
use Rattle.failings.specs.Promise.{FailsEach, failing_byte}
use Rattle.named.specs.Answer.{compare_named}
use Rattle.narrow.specs.Missing.{only}

-- What an answer that is no refusal says.
pub record Fails (P c d out : List ℕ) (yes : Bool) : Type 0 where
  pub fails : FailsEach P c d out yes
  -- [X2] a byte is 0 exactly where C is contained in that entry with its owners alone, by the comparison, into any output that is long enough
  pub compared : (j : ℕ) → 1 ≤ j → j ≤ length (entries_of d) → (o : List ℕ) → length c + length (encode (only (entries_of d) j)) ≤ length o
      → (failing_byte P c d out j ≡ 0) ↔ (compare_named P [] c (encode (only (entries_of d) j)) o ≡ Ok None)
  -- [X3] the entry that the comparison names has the lowest 1
  pub named : (o : List ℕ) {j k : ℕ} → compare_named P [] c d o ≡ not_contained j k
      → (1 ≤ j) × (j ≤ length (entries_of d)) × (failing_byte P c d out j ≡ 1) × ((i : ℕ) → 1 ≤ i → i < j → failing_byte P c d out i ≡ 0)
