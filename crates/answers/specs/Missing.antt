-- Why asking what a description lacks for a service is refused, in the order of the rows; and what its answer says beside the single comparison.
-- Assumes nothing.
use Rattle.std.specs.Prelude.{◌+◌, ◌<◌, ◌≤◌, ◌≡◌, ℕ, length, List, [], Ok, None}
use Rattle.blocks.specs.Encoding.{encode}
use Rattle.blocks.specs.Entries.{entries_of}
use Rattle.blocks.specs.Faults.{faults}
use Rattle.blocks.specs.Promise.{FirstOf, NoneApplies}
use Rattle.blocks.specs.declared.Cause.TheVariants.{Length, Room}
use Rattle.blocks.specs.declared.Cause.{Cause}
use Rattle.blocks.specs.declared.Schema.TheVariants.{Description}
use Rattle.missing.specs.Promise.{LacksEntries, addition, with_more}
use Rattle.missing.specs.declared.Lack.{Lack}
use Rattle.named.specs.Answer.{compare_named}
use Rattle.pairs.specs.Pairs.{pair_faults}

pub data MissingRefused (P c d out : List ℕ) : Cause → ℕ → ℕ → Type 0 where
  -- the list of pairs
  list : {k : Cause} {p : ℕ} → FirstOf (pair_faults P) k p → MissingRefused P c d out k 0 p
  -- then the first description, and then the second
  first : {k : Cause} {p : ℕ} → NoneApplies (pair_faults P) → FirstOf (faults Description c) k p → MissingRefused P c d out k 1 p
  second : {k : Cause} {p : ℕ} → NoneApplies (pair_faults P) → NoneApplies (faults Description c) → FirstOf (faults Description d) k p
      → MissingRefused P c d out k 2 p
  -- then 1, where both together have more than 16 blocks
  long : NoneApplies (pair_faults P) → NoneApplies (faults Description c) → NoneApplies (faults Description d)
      → 8192 < length c + length d → MissingRefused P c d out Length 2 0
  -- and 7 last: the output has no byte for each entry of the second
  short : NoneApplies (pair_faults P) → NoneApplies (faults Description c) → NoneApplies (faults Description d)
      → length c + length d ≤ 8192 → length out < length (entries_of d) → MissingRefused P c d out Room 0 0

-- What an answer that is no refusal says: what the bytes are, and that the first description with the addition, written as one, is contained in the
-- second by the comparison, into any output that is long enough for it.
pub record Lacks (P c d out : List ℕ) (a : Lack) : Type 0 where
  pub lacks : LacksEntries P c d out a
  pub compared : (o : List ℕ) → length (encode (with_more c (addition P c d))) + length d ≤ length o
      → compare_named P [] (encode (with_more c (addition P c d))) d o ≡ Ok None
