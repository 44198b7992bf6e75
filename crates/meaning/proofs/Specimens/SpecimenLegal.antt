-- A comparison's specimen as entries: they are legal, their fields fit their bytes, and they are no more than those of C and D.
-- Assumes nothing.
use Prim.Native.Nat.{◌+◌, ◌<◌, ◌≤◌, pred, suc, ℕ}
use lib.ListN.{get_or, length, length-map}
use mathlib.Core.Bool.{true}
use mathlib.Core.List.{List, map}
use mathlib.Core.Path.{◌∙◌, ◌≡◌, refl}
use native.Mathlib.Omega.{arith}
use Rattle.base.proofs.Tests.{lt-ltb}
use Rattle.blocks.proofs.Refusing.Bounds.{AllBounded}
use Rattle.blocks.proofs.Refusing.Legal.{owner-earlier}
use Rattle.blocks.specs.Entries.{form_ok, name_ok, nth, number_ok, zero_entry}
use Rattle.blocks.specs.Owners.{owner_of}
use Rattle.blocks.specs.Promise.{Legal}
use Rattle.blocks.specs.declared.Entry.{Entry}
use Rattle.blocks.specs.declared.Schema.TheVariants.{Description, Specimen}
use Rattle.logic.proofs.NormalForm.NormalFields.{nf-fields}
use Rattle.logic.proofs.NormalForm.NormalSize.{nf-levels, nf-nodes}
use Rattle.logic.proofs.SpecimenTrees.WitnessFields.{GroupFields, SpecimenFields, witness-fields}
use Rattle.logic.proofs.SpecimenTrees.WitnessLevels.{witness-levels}
use Rattle.logic.proofs.SpecimenTrees.WitnessSize.{witness-nodes}
use Rattle.logic.proofs.TreeRows.AllEntries.{OfRow, row-all, write-all}
use Rattle.logic.proofs.TreeRows.LayoutLaws.{write-length}
use Rattle.logic.specs.Background.{Background}
use Rattle.logic.specs.Layout.{write}
use Rattle.logic.specs.Normal.{nf}
use Rattle.logic.specs.Size.{levels, nodes}
use Rattle.logic.specs.SpecimenTree.{Group, SpecimenTree, group}
use Rattle.logic.specs.Tree.{Row, leaf_row, node_row, row_owner}
use Rattle.logic.specs.Witness.{on, witness}
use Rattle.meaning.proofs.Descriptions.EntryFields.{Any, EntryFields, Positive, Word, bounded_words, legal-names, place-fields}
use Rattle.meaning.proofs.Descriptions.LinkPaths.{links-fewer, links-most, target-fields}
use Rattle.meaning.proofs.Descriptions.PlaceSize.{place-levels, place-nodes}
use Rattle.meaning.proofs.NormalForms.LayoutLegal.{EntryRows, write-legal}
use Rattle.meaning.specs.Description.{atom_of, links_to, place_of}
use Rattle.meaning.specs.SpecimenFor.{row_entry, specimen_entries, specimen_for}

-- ---- rows as entries

specimen-rows : EntryRows Specimen row_entry
specimen-rows = record { owner = owners; owning = kinds }
  where
    owners : (r : Row ℕ Group) → (row_entry r).owner ≡ row_owner r
    owners (leaf_row o p) = refl
    owners (node_row o (group l n)) = refl

    kinds : (o : ℕ) (b : Group) → (row_entry (node_row o b)).kind ≡ 7
    kinds o (group l n) = refl

-- a row with a name has an allowed form
row-form : (r : Row ℕ Group) → OfRow Positive (GroupFields Positive Any) r → form_ok Specimen (row_entry r) ≡ true
unfolding form_ok name_ok number_ok
row-form (leaf_row o p) h = rw (lt-ltb h)
row-form (node_row o (group l n)) h = rw (lt-ltb h.0)

-- the name and the number of a row of words
record Words (e : Entry) : Type 0 where
  kind : e.kind < 256
  reserved : e.reserved < 256
  name : e.name < 65536
  number : e.number < 65536

row_words : (r : Row ℕ Group) → OfRow Word (GroupFields Word Word) r → Words (row_entry r)
row_words (leaf_row o p) h = record { kind = omega arith; reserved = omega arith; name = h; number = omega arith }
row_words (node_row o (group l n)) h = record { kind = omega arith; reserved = omega arith; name = h.0; number = h.1 }

-- ---- a specimen

module _ (s : SpecimenTree) where
  -- its entries are as many as the tree has
  pub specimen-length : length (specimen_entries s) ≡ nodes s
  unfolding specimen_entries
  specimen-length = length-map (write s) row_entry ∙ write-length s

  -- its entries are legal if it has at most 33 levels and no name is 0
  pub specimen-legal : levels s ≤ 33 → SpecimenFields Positive Any s → Legal Specimen (specimen_entries s)
  unfolding specimen_entries
  specimen-legal small h =
      write-legal specimen-rows s small
      (row-all Positive (GroupFields Positive Any) row_entry (λ e. form_ok Specimen e ≡ true) row-form (write s) (write-all Positive (GroupFields Positive Any) s h) zero_entry)

  -- the fields of its entries fit their bytes if names and numbers do
  pub specimen-bounded : Legal Specimen (specimen_entries s) → nodes s ≤ 65536 → SpecimenFields Word Word s → AllBounded (specimen_entries s)
  unfolding specimen_entries owner_of nth
  specimen-bounded L few h =
      let size : length (specimen_entries s) ≡ length (write s) = length-map (write s) row_entry in
      let fields = row-all Word (GroupFields Word Word) row_entry Words row_words (write s) (write-all Word (GroupFields Word Word) s h) zero_entry in
      record {
        each = λ k l. let w : Words (get_or (map row_entry (write s)) k zero_entry) = fields k (omega arith) in
            record {
              kind = w.kind;
              reserved = w.reserved;
              owner = omega (arith, owner-earlier L (suc k) (omega arith) (omega arith), write-length s);
              name = w.name;
              number = w.number;
            };
      }

-- ---- a comparison's specimen

module _ (b : Background) (c d : List Entry) (n : ℕ) (Lc : Legal Description c) (Ld : Legal Description d) (lo : 1 ≤ n) (hi : n ≤ length d) where
  abbrev shown : SpecimenTree
  shown = witness (nf b (place_of c 0)) (on (links_to d n) (atom_of (nth d n)))

  shown-nodes : nodes shown ≤ length c + length d
  shown-nodes =
      omega (
        arith,
        witness-nodes (nf b (place_of c 0)) (on (links_to d n) (atom_of (nth d n))),
        nf-nodes b (place_of c 0),
        place-nodes c,
        links-fewer d Ld n lo hi,
      )

  shown-levels : levels shown ≤ 33
  shown-levels =
      omega (
        arith,
        witness-levels (nf b (place_of c 0)) (on (links_to d n) (atom_of (nth d n))),
        nf-levels b (place_of c 0),
        place-levels c Lc,
        links-most d Ld n lo hi,
      )

  shown-fields : (Name Number : ℕ → Type 0) → Number 0 → ((m : ℕ) → Number m → Number (pred m))
      → ((k : ℕ) → 1 ≤ k → k ≤ length c → EntryFields Name Number (nth c k)) → ((k : ℕ) → 1 ≤ k → k ≤ length d → EntryFields Name Number (nth d k))
      → SpecimenFields Name Number shown
  shown-fields Name Number none less ec ed =
      witness-fields Name Number none less (nf b (place_of c 0)) (on (links_to d n) (atom_of (nth d n)))
      (nf-fields Name Number none b (place_of c 0) (place-fields Name Number c ec 0)) (target-fields Name Number d Ld (length d) (omega arith) ed n lo hi)

  -- [C13] no more entries than C and D together
  pub shown-length : length (specimen_for (nf b (place_of c 0)) d n) ≤ length c + length d
  unfolding specimen_for
  shown-length = omega (arith, specimen-length shown, shown-nodes)

  -- the specimen is legal
  pub shown-legal : Legal Specimen (specimen_for (nf b (place_of c 0)) d n)
  unfolding specimen_for
  shown-legal = specimen-legal shown shown-levels (shown-fields Positive Any tt (λ m h. tt) (legal-names Lc) (legal-names Ld))

  -- its fields fit their bytes if those of C and D do
  pub shown-bounded : AllBounded c → AllBounded d → length c + length d ≤ 65536 → AllBounded (specimen_for (nf b (place_of c 0)) d n)
  unfolding specimen_for
  shown-bounded bc bd few =
      specimen-bounded shown shown-legal (omega (arith, shown-nodes))
      (shown-fields Word Word (omega arith) (λ m h. omega arith) (bounded_words bc) (bounded_words bd))
