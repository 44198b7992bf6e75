-- Asking for the narrowest description that contains two: by which row it is refused, and what its answer says of the output.
-- Assumes nothing.
use Rattle.std.specs.Prelude.{◌*◌, ◌+◌, ◌<◌, ◌≤◌, ℕ, drop, length, List, [], Ok, ◌⊎◌, ◌↔◌, ◌≡◌}
use Rattle.answers.specs.Promise.{Admitted, ContainedNamed}
use Rattle.answers.specs.Refusals.{AcceptedBy, DictionaryRefused, DictionaryTaken}
use Rattle.base.specs.Ascending.{Sorted}
use Rattle.blocks.specs.Encoding.{blocks_for, encode, first_blocks}
use Rattle.blocks.specs.Entries.{entries_of}
use Rattle.blocks.specs.Frame.{plain}
use Rattle.blocks.specs.Promise.{FirstOf, NoneApplies}
use Rattle.blocks.specs.Reading.{reading_of}
use Rattle.blocks.specs.declared.Cause.TheVariants.{Length, Room}
use Rattle.blocks.specs.declared.Cause.{Cause}
use Rattle.blocks.specs.declared.Entry.{Entry}
use Rattle.blocks.specs.declared.Schema.TheVariants.{Description}
use Rattle.meaning.specs.RowEntries.{entry_before}
use Rattle.meaning.specs.Rules.{Applies}
use Rattle.named.specs.Answer.{narrowed_named, narrowest_named, normalise_named, normalised_named}
use Rattle.names.specs.NamedReading.{dictionary_of, named_faults, plain_of}
use Rattle.narrow_listed.specs.Listed.{narrowest_under}
use Rattle.pairs.specs.Pairs.{pair_faults, under}
use Rattle.sheets.specs.Promise.{SheetOfBoth}
use Rattle.sheets.specs.Sheet.{sheet_reading}

-- [G2] [G3] the entries of the narrowest description that contains two, which may name those of a dictionary: of the normal forms of both, as
-- Join of `narrow` joins them
abbrev pub narrowest_with : List ℕ → List ℕ → List ℕ → List ℕ → List Entry
narrowest_with P D a b = narrowest_under P (plain_of D a) (plain_of D b)

-- the bytes of both once unfolded [D8]
abbrev pub both_bytes : List ℕ → List ℕ → List ℕ → ℕ
both_bytes D a b = length (plain_of D a) + length (plain_of D b)

-- the result is no description, which has at most 1,008 entries, or the output is shorter than the result
abbrev pub TooMany : List ℕ → List ℕ → List ℕ → List ℕ → List ℕ → Type 0
TooMany P D a b out =
    (1008 < length (narrowest_with P D a b)) ⊎ (length out < 512 * blocks_for plain (length (narrowest_with P D a b)))

-- [G8] [R25] 11, the dictionary, input 1, input 2
pub data NarrowestRefused (P D a b out : List ℕ) : Cause → ℕ → ℕ → Type 0 where
  list : {k : Cause} {p : ℕ} → FirstOf (pair_faults P) k p → NarrowestRefused P D a b out k 0 p
  dictionary : {k : Cause} {i p : ℕ} → NoneApplies (pair_faults P) → DictionaryRefused D k i p → NarrowestRefused P D a b out k i p
  first : {k : Cause} {p : ℕ} → NoneApplies (pair_faults P) → DictionaryTaken D → FirstOf (named_faults (dictionary_of D) a) k p
      → NarrowestRefused P D a b out k 1 p
  second : {k : Cause} {p : ℕ} → NoneApplies (pair_faults P) → AcceptedBy D a → FirstOf (named_faults (dictionary_of D) b) k p
      → NarrowestRefused P D a b out k 2 p
  -- then 1 at input 2: both together have more than 16 blocks, once unfolded
  large : NoneApplies (pair_faults P) → AcceptedBy D a → AcceptedBy D b → 8192 < both_bytes D a b → NarrowestRefused P D a b out Length 2 0
  -- then 7: the output is shorter than both, once unfolded
  short : NoneApplies (pair_faults P) → AcceptedBy D a → AcceptedBy D b → both_bytes D a b ≤ 8192 → length out < both_bytes D a b
      → NarrowestRefused P D a b out Room 0 0
  -- and 7 last
  many : NoneApplies (pair_faults P) → AcceptedBy D a → AcceptedBy D b → both_bytes D a b ≤ 8192 → both_bytes D a b ≤ length out
      → TooMany P D a b out → NarrowestRefused P D a b out Room 0 0

-- what 7 says: the list, the dictionary and both inputs are accepted, with at most 16 blocks together, and the output is shorter than both, or
-- than the result, or the result is no description
pub record SevenDue (P D a b out : List ℕ) : Type 0 where
  pub pairs : NoneApplies (pair_faults P)
  pub first : AcceptedBy D a
  pub second : AcceptedBy D b
  pub sixteen : both_bytes D a b ≤ 8192
  pub why : (length out < both_bytes D a b) ⊎ TooMany P D a b out

-- the bytes of the result
abbrev pub narrowest_bytes : List ℕ → List ℕ → List ℕ → List ℕ → List ℕ → ℕ → List ℕ
narrowest_bytes P D a b out k = first_blocks k (narrowed_named P D a b out)

-- What the answer that the result has k entries says of the output.
pub record Narrows (P D a b out : List ℕ) (k : ℕ) : Type 0 where
  -- [G1] the blocks fit the output, and later bytes are unchanged
  pub room : 512 * blocks_for plain k ≤ length out
  pub later : drop (512 * blocks_for plain k) (narrowed_named P D a b out) ≡ drop (512 * blocks_for plain k) out
  -- they are a plain description of k entries, at most 1,008
  pub blocks : narrowest_bytes P D a b out k ≡ encode (narrowest_with P D a b)
  pub few : k ≤ 1008
  pub accepted : (i : ℕ) → reading_of Description i (narrowest_bytes P D a b out k) ≡ Ok k
  -- [G6] it is in normal form: its entries ascend, no rule applies to them, and it is normalised to its own bytes, with the same dictionary, into any
  -- output that is as long
  pub ascending : Sorted entry_before (entries_of (narrowest_bytes P D a b out k))
  pub irreducible : (n : ℕ) → Applies (under P) n (entries_of (narrowest_bytes P D a b out k)) → ⊥
  pub again : (out' : List ℕ) → 512 * blocks_for plain k ≤ length out'
      → (normalise_named P D (narrowest_bytes P D a b out k) out' ≡ Ok k)
      × (first_blocks k (normalised_named P D (narrowest_bytes P D a b out k) out') ≡ narrowest_bytes P D a b out k)
  -- [G4] each input is contained in it
  pub first : ContainedNamed P D a (narrowest_bytes P D a b out k)
  pub second : ContainedNamed P D b (narrowest_bytes P D a b out k)
  -- [G5] and of the accepted descriptions just those contain it that contain both: it is the narrowest
  pub least : (e : List ℕ) → Admitted D e
      → ContainedNamed P D (narrowest_bytes P D a b out k) e ↔ (ContainedNamed P D a e × ContainedNamed P D b e)
  -- [G7] whichever input comes first
  pub either : (narrowest_named P D b a out ≡ Ok k) × (narrowed_named P D b a out ≡ narrowed_named P D a b out)
  -- [D8] the answer and the bytes are those for the unfolded descriptions
  pub unfolded : (narrowest_named P [] (plain_of D a) (plain_of D b) out ≡ Ok k)
      × (narrowed_named P [] (plain_of D a) (plain_of D b) out ≡ narrowed_named P D a b out)

-- [W6] of two field sheets, with no pairs: the blocks are read as a field sheet of k entries exactly where some item of
-- some record fits at least one of the two
abbrev pub JoinsSheets : List ℕ → List ℕ → List ℕ → List ℕ → List ℕ → ℕ → Type 0
JoinsSheets P D a b out k =
    P ≡ [] → (n m : ℕ) → sheet_reading a ≡ Ok n → sheet_reading b ≡ Ok m → SheetOfBoth a b (narrowest_bytes P D a b out k) k
