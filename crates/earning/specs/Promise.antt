-- What the promises of asking which entries earn a yes speak of.
-- Assumes nothing.
use Rattle.std.specs.Prelude.{◌≡◌, ◌≢◌, ◌↔◌, ◌-◌, ◌<◌, ◌≤◌, ℕ, Bool, drop, get_or, length, true, false, List, Ok}
use Rattle.base.specs.Range.{bit}
use Rattle.blocks.specs.Encoding.{encode}
use Rattle.blocks.specs.Entries.{entries_of, nth}
use Rattle.blocks.specs.Reading.{reading_of}
use Rattle.blocks.specs.declared.Entry.{Entry}
use Rattle.blocks.specs.declared.Schema.TheVariants.{Description}
use Rattle.earning.specs.Answer.{earned_of}
use Rattle.meaning.specs.Description.{place_of}
use Rattle.meaning.specs.Promise.{Subsumed}
use Rattle.narrow.specs.Earned.{earned}
use Rattle.narrow.specs.Keeping.{cut, without}
use Rattle.pairs.specs.Pairs.{under}

-- the set of the entries that earn the yes
abbrev pub earners_of : List ℕ → List ℕ → List ℕ → ℕ → Bool
earners_of P c d = earned (under P) (entries_of c) (entries_of d)

-- the byte of entry j of C
abbrev pub earned_byte : List ℕ → List ℕ → List ℕ → List ℕ → ℕ → ℕ
earned_byte P c d out j = get_or (earned_of P c d out) (j - 1) 0

-- C cut down to a set of its entries, which are numbered anew
abbrev pub cut_to : List ℕ → (ℕ → Bool) → List Entry
cut_to c M = cut M 0 (entries_of c)

-- every item that fits one list of entries fits d, in every finite record that keeps the pairs and the rule on links to one item
abbrev pub Within : List ℕ → List Entry → List ℕ → Type 0
Within P es d = Subsumed (under P) (place_of es 0) (place_of (entries_of d) 0)

-- [A3] [A4] what the bytes say where C is contained in D
pub record EarnsYes (P c d out : List ℕ) : Type 0 where
  -- the bytes are those of the set that leaving out from the last entry to the first finds, and of its owners
  pub bytes : (j : ℕ) → 1 ≤ j → j ≤ length (entries_of c) → earned_byte P c d out j ≡ bit (earners_of P c d j)
  -- C cut down to the marked entries is accepted in blocks, and still contained
  pub accepted : (i : ℕ) → reading_of Description i (encode (cut_to c (earners_of P c d))) ≡ Ok (length (cut_to c (earners_of P c d)))
  pub still : Within P (cut_to c (earners_of P c d)) d
  -- without any one of them that is no 'every' it is not
  pub needed : (j : ℕ) → 1 ≤ j → j ≤ length (entries_of c) → (nth (entries_of c) j).kind ≢ 5 → earned_byte P c d out j ≡ 1
      → Within P (cut_to c (without j (earners_of P c d))) d → ⊥
  -- of two equal entries the later is not marked
  pub first : (i j : ℕ) → 1 ≤ i → i < j → j ≤ length (entries_of c) → nth (entries_of c) i ≡ nth (entries_of c) j → (nth (entries_of c) j).kind ≢ 5
      → earned_byte P c d out j ≡ 0

-- What an answer that is no refusal says.
pub record EarnsEntries (P c d out : List ℕ) (yes : Bool) : Type 0 where
  -- [A1] whether C is contained in D
  pub answer : (yes ≡ true) ↔ Within P (entries_of c) d
  -- [A6] a byte for each entry of C, and later ones are unchanged
  pub room : length (entries_of c) ≤ length out
  pub later : drop (length (entries_of c)) (earned_of P c d out) ≡ drop (length (entries_of c)) out
  -- [A5] all 0 where it is not contained
  pub none : yes ≡ false → (j : ℕ) → 1 ≤ j → j ≤ length (entries_of c) → earned_byte P c d out j ≡ 0
  pub some : yes ≡ true → EarnsYes P c d out
