-- Laws of listed entries, as a description.
-- Assumes nothing.
use Prim.Native.Nat.{◌<◌, suc, ℕ}
use lib.Dec.{eqb}
use lib.ListN.{get_or, length, length-map}
use mathlib.Core.Bool.{Bool}
use mathlib.Core.List.{List}
use mathlib.Core.Path.{◌∙◌, ◌≡◌, ap, sym}
use Rattle.base.proofs.Lists.{get_d-map-in}
use Rattle.blocks.proofs.Refusing.Legal.{owner-earlier, owner-kind}
use Rattle.blocks.proofs.RoundTrip.Decoding.{decode-encode}
use Rattle.blocks.specs.Entries.{entries_of, nth, zero_entry}
use Rattle.blocks.specs.Promise.{Legal}
use Rattle.blocks.specs.declared.Entry.{Entry}
use Rattle.blocks.specs.declared.Schema.TheVariants.{Description}
use Rattle.logic.specs.Background.{Background}
use Rattle.meaning.specs.Failing.{failing}
use Rattle.meaning.specs.Owned.{Owned}
use Rattle.slots.specs.Holding.{failing_in}
use Rattle.slots.specs.code.Rows.{listed_in, rows_bytes}
use Rattle.unfolding.specs.code.Rows.{entry_of_row}

-- what the passes are told of listed entries: how many there are, and that each has its owner
pub record Told (rows : List ℕ) : Type 0 where
  pub many : length rows ≡ length (entries_of (rows_bytes rows))
  pub owned : Owned (entries_of (rows_bytes rows))

pub listing-told : (rows : List ℕ) → Legal Description (listed_in rows) → Told rows
listing-told rows L =
    let back = decode-encode (listed_in rows) in
    record {
      many = sym (ap length back ∙ length-map rows entry_of_row);
      owned = rw back (record { earlier = owner-earlier L; every = owner-kind L });
    }

-- the entry of a number
pub listing-entry : (rows : List ℕ) (i : ℕ) → i < length rows → {x : ℕ} → x ≡ get_or rows i 0 → entry_of_row x ≡ nth (entries_of (rows_bytes rows)) (suc i)
unfolding nth
listing-entry rows i h e =
    let back = decode-encode (listed_in rows) in
    rw (back, e) (sym (get_d-map-in entry_of_row rows 0 zero_entry i h))

-- what fails of a description in blocks fails of the listed entries
pub listing-fails : (b : Background) (rows d : List ℕ) {r : Bool} → r ≡ eqb (failing_in b (rows_bytes rows) d) 0 → r ≡ eqb (failing b (listed_in rows) (entries_of d)) 0
unfolding failing_in
listing-fails b rows d e = e ∙ ap (λ (c : List Entry). eqb (failing b c (entries_of d)) 0) (decode-encode (listed_in rows))
