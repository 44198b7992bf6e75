-- What the promises of asking what a description lacks speak of.
-- Assumes nothing.
use Rattle.std.specs.Prelude.{◌≡◌, ◌≢◌, ◌↔◌, ◌-◌, ◌<◌, ◌≤◌, ℕ, drop, get_or, length, true, List, Ok}
use Rattle.base.specs.Range.{bit}
use Rattle.blocks.specs.Encoding.{encode}
use Rattle.blocks.specs.Entries.{entries_of, nth}
use Rattle.blocks.specs.Reading.{reading_of}
use Rattle.blocks.specs.declared.Entry.{Entry}
use Rattle.blocks.specs.declared.Schema.TheVariants.{Description}
use Rattle.earning.specs.Promise.{Within, cut_to}
use Rattle.logic.specs.Background.{Keeps}
use Rattle.logic.specs.Meaning.{Equivalent}
use Rattle.logic.specs.Record.{Record, fits}
use Rattle.meaning.specs.Description.{place_of}
use Rattle.meaning.specs.Promise.{EntailsEntry}
use Rattle.missing.specs.Answer.{lacked_of, lacks}
use Rattle.missing.specs.declared.Lack.TheVariants.{Against, Nothing}
use Rattle.missing.specs.declared.Lack.{Lack}
use Rattle.narrow.specs.Keeping.{without}
use Rattle.narrow.specs.Missing.{both}
use Rattle.pairs.specs.Pairs.{under}

-- the byte of entry j of D
abbrev pub lacked_byte : List ℕ → List ℕ → List ℕ → List ℕ → ℕ → ℕ
lacked_byte P c d out j = get_or (lacked_of P c d out) (j - 1) 0

-- the addition: D cut down to the marked entries, which are numbered anew
abbrev pub addition : List ℕ → List ℕ → List ℕ → List Entry
addition P c d = cut_to d (lacks P c d)

-- C with more entries, as one list
abbrev pub with_more : List ℕ → List Entry → List Entry
with_more c es = both (entries_of c) es

-- in every finite record that keeps the pairs and the rule on links to one item, no item fits both
abbrev pub NoneFits : List ℕ → List ℕ → List ℕ → Type 0
NoneFits P c d = (r : Record) → Keeps (under P) r → (x : ℕ) → x < r.size → fits r (place_of (entries_of c) 0) x ≡ true → fits r (place_of (entries_of d) 0) x ≡ true → ⊥

-- [M3] [M4] [M5] what the bytes say
pub record Adds (P c d out : List ℕ) : Type 0 where
  -- the addition is accepted in blocks, and so is C with the addition
  pub accepted : (i : ℕ) → reading_of Description i (encode (addition P c d)) ≡ Ok (length (addition P c d))
  pub joined : (i : ℕ) → reading_of Description i (encode (with_more c (addition P c d))) ≡ Ok (length (with_more c (addition P c d)))
  -- an item that fits C and the addition fits D
  pub fits-both : (r : Record) → Keeps (under P) r → (x : ℕ) → x < r.size → fits r (place_of (entries_of c) 0) x ≡ true
      → fits r (place_of (addition P c d) 0) x ≡ true → fits r (place_of (entries_of d) 0) x ≡ true
  -- C with the addition is contained in D, and says what C and D say
  pub enough : Within P (with_more c (addition P c d)) d
  pub same : Equivalent (under P) (place_of (with_more c (addition P c d)) 0) (place_of (with_more c (entries_of d)) 0)
  -- a marked entry that is no 'every' fails, and without it the addition is not enough
  pub fails : (j : ℕ) → 1 ≤ j → j ≤ length (entries_of d) → (nth (entries_of d) j).kind ≢ 5 → lacked_byte P c d out j ≡ 1
      → EntailsEntry (under P) (place_of (entries_of c) 0) (entries_of d) j → ⊥
  pub needed : (j : ℕ) → 1 ≤ j → j ≤ length (entries_of d) → (nth (entries_of d) j).kind ≢ 5 → lacked_byte P c d out j ≡ 1
      → Within P (with_more c (cut_to d (without j (lacks P c d)))) d → ⊥

-- What an answer that is no refusal says.
pub record LacksEntries (P c d out : List ℕ) (a : Lack) : Type 0 where
  -- [M1] nothing exactly where C is contained in D; where it is not, against exactly where no item fits both
  pub nothing : (a ≡ Nothing) ↔ Within P (entries_of c) d
  pub against : a ≢ Nothing → (a ≡ Against) ↔ NoneFits P c d
  -- [M6] a byte for each entry of D, and later ones are unchanged
  pub room : length (entries_of d) ≤ length out
  pub later : drop (length (entries_of d)) (lacked_of P c d out) ≡ drop (length (entries_of d)) out
  -- [M2] [M5] the bytes are those of the set that leaving out from the last to the first finds, and of its owners; all 0 exactly where nothing is
  -- lacking
  pub bytes : (j : ℕ) → 1 ≤ j → j ≤ length (entries_of d) → lacked_byte P c d out j ≡ bit (lacks P c d j)
  pub none : ((j : ℕ) → 1 ≤ j → j ≤ length (entries_of d) → lacked_byte P c d out j ≡ 0) ↔ Within P (entries_of c) d
  pub adds : Adds P c d out
