-- Why the call that fits all items of a delivered record refuses, in the order of the rows, and what its answer says of each byte.
-- Assumes nothing.
use Rattle.std.specs.Prelude.{◌≡◌, ◌<◌, ◌≤◌, ℕ, drop, get_or, length, true, List, [], Ok}
use Rattle.answers.specs.Promise.{ContainedNamed, fits_in}
use Rattle.answers.specs.Refusals.{AcceptedBy, DictionaryRefused, DictionaryTaken}
use Rattle.base.specs.Range.{bit}
use Rattle.blocks.specs.Entries.{entries_of}
use Rattle.blocks.specs.Promise.{FirstOf, NoneApplies}
use Rattle.blocks.specs.declared.Cause.TheVariants.{Room}
use Rattle.blocks.specs.declared.Cause.{Cause}
use Rattle.delivered.specs.Reading.{delivered_faults}
use Rattle.delivered.specs.Record.{delivered_record}
use Rattle.items.specs.Answer.{items_of, marked_of}
use Rattle.logic.specs.Background.{Keeps}
use Rattle.names.specs.NamedReading.{dictionary_of, named_faults, plain_of}
use Rattle.pairs.specs.Pairs.{pair_faults, under}

-- [J6] [R25] 11, the dictionary, input 1, a delivered record, then input 2
pub data ItemsRefused (P D : List ℕ) (total : ℕ) (r d out : List ℕ) : Cause → ℕ → ℕ → Type 0 where
  list : {k : Cause} {p : ℕ} → FirstOf (pair_faults P) k p → ItemsRefused P D total r d out k 0 p
  dictionary : {k : Cause} {i p : ℕ} → NoneApplies (pair_faults P) → DictionaryRefused D k i p → ItemsRefused P D total r d out k i p
  -- [J5] 10 for the total, then the record's other lines
  delivered : {k : Cause} {p : ℕ} → NoneApplies (pair_faults P) → DictionaryTaken D → FirstOf (delivered_faults P total r) k p
      → ItemsRefused P D total r d out k 1 p
  description : {k : Cause} {p : ℕ} → NoneApplies (pair_faults P) → DictionaryTaken D → NoneApplies (delivered_faults P total r)
      → FirstOf (named_faults (dictionary_of D) d) k p → ItemsRefused P D total r d out k 2 p
  -- and 7 last: the output has fewer bytes than there are items
  short : NoneApplies (pair_faults P) → AcceptedBy D d → NoneApplies (delivered_faults P total r) → length out < total
      → ItemsRefused P D total r d out Room 0 0

-- byte x of the output
abbrev pub item_byte : List ℕ → List ℕ → ℕ → List ℕ → List ℕ → List ℕ → ℕ → ℕ
item_byte P D total r d out x = get_or (marked_of P D total r d out) x 0

-- What the answer n says of the output.
pub record MarksItems (P D : List ℕ) (total : ℕ) (r d out : List ℕ) (n : ℕ) : Type 0 where
  -- [J2] [J4] it is the number of items, 1 to 256, which the output has room for; later bytes are unchanged
  pub count : n ≡ total
  pub some : 1 ≤ total
  pub most : total ≤ 256
  pub room : total ≤ length out
  pub later : drop total (marked_of P D total r d out) ≡ drop total out
  -- [J5] the record that the entries say keeps the rule on single links, and the list
  pub kept : Keeps (under P) (delivered_record total (entries_of r))
  -- [J4] a byte is 1 exactly if its item fits, in that record, the description with names [D7]
  pub byte : (x : ℕ) → x < total → item_byte P D total r d out x ≡ bit (fits_in (delivered_record total (entries_of r)) D d x)
  -- [D8] the answer and the bytes are those for the unfolded description
  pub unfolded : (items_of P [] total r (plain_of D d) out ≡ Ok n) × (marked_of P [] total r (plain_of D d) out ≡ marked_of P D total r d out)
  -- [J7] an item that fits a description fits each that contains it
  pub contained : (e out' : List ℕ) (m : ℕ) → ContainedNamed P D d e → items_of P D total r e out' ≡ Ok m → (x : ℕ) → x < total
      → item_byte P D total r d out x ≡ 1 → item_byte P D total r e out' x ≡ 1
