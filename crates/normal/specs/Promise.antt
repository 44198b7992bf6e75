-- What the promises of the normal form speak of: the same items, and what the answer says of the output.
-- Assumes nothing.
use Rattle.std.specs.Prelude.{◌*◌, ◌≤◌, ℕ, drop, length, List, ◌++◌, ◌≡◌, Ok}
use Rattle.base.specs.Ascending.{Sorted}
use Rattle.blocks.specs.Encoding.{blocks_for, encode, first_blocks}
use Rattle.blocks.specs.Entries.{entries_of}
use Rattle.blocks.specs.Frame.{plain}
use Rattle.blocks.specs.Reading.{reading_of}
use Rattle.blocks.specs.declared.Entry.{Entry}
use Rattle.blocks.specs.declared.Schema.TheVariants.{Description}
use Rattle.logic.specs.Background.{Background}
use Rattle.logic.specs.Meaning.{Equivalent}
use Rattle.meaning.specs.Description.{place_of}
use Rattle.meaning.specs.NormalEntries.{normal_entries}
use Rattle.meaning.specs.NormalExamples.{Line, normalises}
use Rattle.meaning.specs.RowEntries.{entry_before}
use Rattle.meaning.specs.Rules.{Applies}
use Rattle.normal.specs.Answer.{normalise_of, normalised_of}
use Rattle.pairs.specs.Pairs.{under}

-- [N16] the same items fit both inputs, in every finite record that keeps the background
abbrev pub SameItems : Background → List ℕ → List ℕ → Type 0
SameItems b c d = Equivalent b (place_of (entries_of c) 0) (place_of (entries_of d) 0)

-- What the answer, under a list of pairs, that the normal form has k entries says of the output.
pub record Normalises (P d out : List ℕ) (k : ℕ) : Type 0 where
  -- the blocks fit the output, are no more than those of the input, and later bytes are unchanged
  pub room : 512 * blocks_for plain k ≤ length out
  pub shorter : 512 * blocks_for plain k ≤ length d
  pub later : drop (512 * blocks_for plain k) (normalised_of P d out) ≡ drop (512 * blocks_for plain k) out
  -- [N19] they are a description of k entries, no more than the input has
  pub blocks : first_blocks k (normalised_of P d out) ≡ encode (normal_entries (under P) (entries_of d))
  pub accepted : reading_of Description 1 (first_blocks k (normalised_of P d out)) ≡ Ok k
  pub few : k ≤ length (entries_of d)
  pub ascending : Sorted entry_before (entries_of (first_blocks k (normalised_of P d out)))
  -- [N17] no rule applies to the entries that are read back from them, nor that equal entries become one
  pub irreducible : (n : ℕ) → Applies (under P) n (entries_of (first_blocks k (normalised_of P d out))) → ⊥
  -- the same items fit them as the input
  pub same : SameItems (under P) (first_blocks k (normalised_of P d out)) d
  -- [N18] they are normalised to themselves, into any output that is as long
  pub again : (out' : List ℕ) → 512 * blocks_for plain k ≤ length out'
      → (normalise_of P (first_blocks k (normalised_of P d out)) out' ≡ Ok k)
      × (first_blocks k (normalised_of P (first_blocks k (normalised_of P d out)) out') ≡ first_blocks k (normalised_of P d out))

-- the entries c as blocks give the number of the entries n, and their blocks at the start of each output that is long enough
abbrev pub NormalisedAs : List ℕ → List Entry → List Entry → Type 0
NormalisedAs P c n =
    (out : List ℕ) → length (encode c) ≤ length out
    → (normalise_of P (encode c) out ≡ Ok (length n)) × (normalised_of P (encode c) out ≡ encode n ++ drop (512 * blocks_for plain (length n)) out)

-- what a line of the examples says
abbrev pub Right : List ℕ → Line → Type 0
Right P (normalises c n) = NormalisedAs P c n

-- [N17] the rules leave nothing out: what holds of an accepted description whose entries ascend, and to which none of
-- them applies. It is normalised to its own bytes, into each output that is as long
abbrev pub OwnNormalForm : List ℕ → List ℕ → Type 0
OwnNormalForm P d =
    (out : List ℕ) → length d ≤ length out
    → (normalise_of P d out ≡ Ok (length (entries_of d))) × (normalised_of P d out ≡ d ++ drop (length d) out)
