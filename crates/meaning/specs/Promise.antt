-- What the promises of the comparison speak of, for lists of entries: what C entails of D, the first entry that it does not, and a
-- specimen that shows it.
-- Assumes nothing.
use Rattle.std.specs.Prelude.{◌+◌, ◌<◌, ◌≤◌, ℕ, length, false, true, List, ◌≢◌, ◌≡◌}
use Rattle.blocks.specs.Entries.{nth}
use Rattle.blocks.specs.Promise.{Legal}
use Rattle.blocks.specs.declared.Entry.{Entry}
use Rattle.blocks.specs.declared.Schema.TheVariants.{Specimen}
use Rattle.logic.specs.Background.{Background, Keeps}
use Rattle.logic.specs.Meaning.{Entails}
use Rattle.logic.specs.Place.{Place}
use Rattle.logic.specs.Record.{Record, fits}
use Rattle.meaning.specs.Description.{atom_of, links_to, place_of}
use Rattle.meaning.specs.Specimen.{record_of}

-- every item that fits t fits u, in the records that keep the background
abbrev pub Subsumed : Background → Place → Place → Type 0
Subsumed b t u = (r : Record) → Keeps b r → (x : ℕ) → x < r.size → fits r t x ≡ true → fits r u x ≡ true

-- the place t says entry n of d: each item that the links to the entry lead to, from an item that fits t, meets it
abbrev pub EntailsEntry : Background → Place → List Entry → ℕ → Type 0
EntailsEntry b t d n = Entails b t (links_to d n) (atom_of (nth d n))

-- [C8] entry n of d is the first, apart from 'every' entries, that t does not say
pub record FirstNotEntailed (b : Background) (t : Place) (d : List Entry) (n : ℕ) : Type 0 where
  pub low : 1 ≤ n
  pub high : n ≤ length d
  pub kind : (nth d n).kind ≢ 5
  pub not-entailed : EntailsEntry b t d n → ⊥
  pub before : (j : ℕ) → 1 ≤ j → j < n → (nth d j).kind ≢ 5 → EntailsEntry b t d j

-- a specimen, as entries, that is legal and whose top item fits C and does not fit D. That its record keeps the background, and so that
-- it is accepted, is said apart.
pub record Shown (c d sp : List Entry) : Type 0 where
  pub legal : Legal Specimen sp
  pub fitting : fits (record_of sp) (place_of c 0) 0 ≡ true
  pub missing : fits (record_of sp) (place_of d 0) 0 ≡ false
  -- [C13] no more entries than C and D together
  pub size : length sp ≤ length c + length d
