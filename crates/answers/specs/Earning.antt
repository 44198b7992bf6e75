-- Why a call is refused that asks of two descriptions under a list of pairs, without a dictionary, and writes a byte for each entry of one of
-- them, in the order of the rows; and what asking which entries earn a yes says beside the single comparison.
-- Assumes nothing.
use Rattle.std.specs.Prelude.{◌+◌, ◌<◌, ◌≤◌, ◌≡◌, ℕ, Bool, length, true, List, [], Ok, None}
use Rattle.blocks.specs.Encoding.{encode}
use Rattle.blocks.specs.Entries.{entries_of}
use Rattle.blocks.specs.Faults.{faults}
use Rattle.blocks.specs.Promise.{FirstOf, NoneApplies}
use Rattle.blocks.specs.declared.Cause.TheVariants.{Room}
use Rattle.blocks.specs.declared.Cause.{Cause}
use Rattle.blocks.specs.declared.Schema.TheVariants.{Description}
use Rattle.earning.specs.Promise.{EarnsEntries, cut_to, earners_of}
use Rattle.named.specs.Answer.{compare_named}
use Rattle.pairs.specs.Pairs.{pair_faults}

-- the bytes are for the entries of one of the two
pub data AskedRefused (P c d of out : List ℕ) : Cause → ℕ → ℕ → Type 0 where
  -- the list of pairs
  list : {k : Cause} {p : ℕ} → FirstOf (pair_faults P) k p → AskedRefused P c d of out k 0 p
  -- then the first description, and then the second
  first : {k : Cause} {p : ℕ} → NoneApplies (pair_faults P) → FirstOf (faults Description c) k p → AskedRefused P c d of out k 1 p
  second : {k : Cause} {p : ℕ} → NoneApplies (pair_faults P) → NoneApplies (faults Description c) → FirstOf (faults Description d) k p
      → AskedRefused P c d of out k 2 p
  -- and 7 last: the output has no byte for each entry
  short : NoneApplies (pair_faults P) → NoneApplies (faults Description c) → NoneApplies (faults Description d)
      → length out < length (entries_of of) → AskedRefused P c d of out Room 0 0

-- What an answer that is no refusal says: what the bytes are, and that the description cut down to the marked entries is contained by the
-- comparison, into any output that is long enough for it.
pub record Earns (P c d out : List ℕ) (yes : Bool) : Type 0 where
  pub earns : EarnsEntries P c d out yes
  pub compared : yes ≡ true → (o : List ℕ) → length (encode (cut_to c (earners_of P c d))) + length d ≤ length o
      → compare_named P [] (encode (cut_to c (earners_of P c d))) d o ≡ Ok None
