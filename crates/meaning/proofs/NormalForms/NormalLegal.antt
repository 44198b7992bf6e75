-- The entries of a normal form are legal, and their fields fit their bytes.
-- Assumes nothing.
use Prim.Native.Nat.{◌<◌, ◌≤◌, suc, ℕ}
use lib.ListN.{get_or, length, length-map}
use mathlib.Core.Bool.{true}
use mathlib.Core.List.{List, map}
use mathlib.Core.Path.{◌≡◌, refl}
use native.Mathlib.Omega.{arith}
use Rattle.base.proofs.Tests.{eq-eqb, lt-ltb}
use Rattle.blocks.proofs.Refusing.Bounds.{AllBounded}
use Rattle.blocks.proofs.Refusing.Legal.{owner-earlier}
use Rattle.blocks.specs.Entries.{form_ok, name_ok, nth, number_ok, zero_entry}
use Rattle.blocks.specs.Owners.{owner_of}
use Rattle.blocks.specs.Promise.{Legal}
use Rattle.blocks.specs.declared.Entry.{Entry}
use Rattle.blocks.specs.declared.Schema.TheVariants.{Description}
use Rattle.logic.proofs.NormalForm.NormalSize.{nf-levels}
use Rattle.logic.proofs.NormalForm.NormalFields.{Stored, nf-stored}
use Rattle.logic.proofs.TreeRows.AllEntries.{OfRow, row-all, write-all}
use Rattle.logic.specs.Background.{Background}
use Rattle.logic.specs.Layout.{write}
use Rattle.logic.specs.Normal.{nf}
use Rattle.logic.specs.Place.{Atom, Place, atom, has, lacks, least, most, nothing}
use Rattle.logic.specs.Size.{levels}
use Rattle.logic.specs.Tree.{Row, leaf_row, node_row, row_owner}
use Rattle.meaning.proofs.Descriptions.EntryFields.{Any, Positive, Word, bounded_words, legal-names, place-fields}
use Rattle.meaning.proofs.Descriptions.PlaceSize.{place-levels}
use Rattle.meaning.proofs.NormalForms.LayoutLegal.{EntryRows, write-legal}
use Rattle.meaning.proofs.NormalForms.NormalEntriesLaws.{normal-fewer}
use Rattle.meaning.specs.Description.{place_of}
use Rattle.meaning.specs.NormalEntries.{normal_entries}
use Rattle.meaning.specs.RowEntries.{row_entry}

-- ---- rows as entries

pub description-rows : EntryRows Description row_entry
description-rows = record { owner = owners; owning = λ o l. refl }
  where
    owners : (r : Row Atom ℕ) → (row_entry r).owner ≡ row_owner r
    owners (leaf_row o (atom k n m)) = refl
    owners (node_row o l) = refl

-- a row of a normal form has an allowed form
pub row-form : (r : Row Atom ℕ) → OfRow (Stored Positive Any) Positive r → form_ok Description (row_entry r) ≡ true
unfolding form_ok name_ok number_ok
row-form (leaf_row o (atom has n m)) h = rw (lt-ltb h.0, eq-eqb h.1)
row-form (leaf_row o (atom lacks n m)) h = rw (lt-ltb h.0, eq-eqb h.1)
row-form (leaf_row o (atom least n m)) h = rw (lt-ltb h.0)
row-form (leaf_row o (atom most n m)) h = rw (lt-ltb h.0)
row-form (leaf_row o (atom nothing n m)) h = rw (eq-eqb h.0, eq-eqb h.1)
row-form (node_row o l) h = rw (lt-ltb h)

-- the fields of a row of words, its owner apart
record Words (e : Entry) : Type 0 where
  kind : e.kind < 256
  reserved : e.reserved < 256
  name : e.name < 65536
  number : e.number < 65536

row_words : (r : Row Atom ℕ) → OfRow (Stored Word Word) Word r → Words (row_entry r)
row_words (leaf_row o (atom has n m)) h = record { kind = omega arith; reserved = omega arith; name = h.0; number = omega (arith, h.1) }
row_words (leaf_row o (atom lacks n m)) h = record { kind = omega arith; reserved = omega arith; name = h.0; number = omega (arith, h.1) }
row_words (leaf_row o (atom least n m)) h = record { kind = omega arith; reserved = omega arith; name = h.0; number = h.1 }
row_words (leaf_row o (atom most n m)) h = record { kind = omega arith; reserved = omega arith; name = h.0; number = h.1 }
row_words (leaf_row o (atom nothing n m)) h =
    record { kind = omega arith; reserved = omega arith; name = omega (arith, h.0); number = omega (arith, h.1) }
row_words (node_row o l) h = record { kind = omega arith; reserved = omega arith; name = h; number = omega arith }

-- ---- a description

module _ (b : Background) (es : List Entry) (L : Legal Description es) where
  abbrev normal : Place
  normal = nf b (place_of es 0)

  normal-low : levels normal ≤ 33
  normal-low = omega (arith, nf-levels b (place_of es 0), place-levels es L)

  -- the normal form of a legal list of entries is legal
  pub normal-legal : Legal Description (normal_entries b es)
  unfolding normal_entries
  normal-legal =
      let fields = nf-stored Positive Any tt b (place_of es 0) (place-fields Positive Any es (legal-names L) 0) in
      write-legal description-rows normal normal-low
      (row-all (Stored Positive Any) Positive row_entry (λ e. form_ok Description e ≡ true) row-form (write normal)
      (write-all (Stored Positive Any) Positive normal fields) zero_entry)

  -- its fields fit their bytes if those of the description do
  pub normal-bounded : AllBounded es → length es ≤ 65536 → AllBounded (normal_entries b es)
  unfolding normal_entries owner_of nth
  normal-bounded small few =
      let size : length (normal_entries b es) ≡ length (write normal) = length-map (write normal) row_entry in
      let stored = nf-stored Word Word (omega arith) b (place_of es 0) (place-fields Word Word es (bounded_words small) 0) in
      let fields = row-all (Stored Word Word) Word row_entry Words row_words (write normal) (write-all (Stored Word Word) Word normal stored) zero_entry in
      record {
        each = λ k l. let w : Words (get_or (map row_entry (write normal)) k zero_entry) = fields k (omega arith) in
            record {
              kind = w.kind;
              reserved = w.reserved;
              owner = omega (arith, owner-earlier normal-legal (suc k) (omega arith) (omega arith), normal-fewer b es);
              name = w.name;
              number = w.number;
            };
      }
