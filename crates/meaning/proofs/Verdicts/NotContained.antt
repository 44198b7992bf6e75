-- Where an entry of D fails, the specimen shows it: its top item fits C and does not fit D.
-- Assumes nothing.
use Prim.Native.Nat.{◌+◌, ◌≤◌, ℕ}
use lib.Dec.{eqb}
use lib.ListN.{length}
use mathlib.Core.Bool.{false, true}
use mathlib.Core.List.{List}
use mathlib.Core.Logic.{◌≢◌}
use mathlib.Core.Path.{◌∙◌, ◌≡◌, refl, sym}
use native.Mathlib.Omega.{arith}
use Rattle.base.proofs.Missing.{not-true}
use Rattle.base.proofs.Tests.{both_ways, neither_left, neither_right}
use Rattle.blocks.proofs.Refusing.Bounds.{AllBounded}
use Rattle.blocks.specs.Entries.{nth}
use Rattle.blocks.specs.Promise.{Legal}
use Rattle.blocks.specs.declared.Entry.{Entry}
use Rattle.blocks.specs.declared.Schema.TheVariants.{Description}
use Rattle.logic.proofs.NormalForm.IsNormal.{alive, nf-normal}
use Rattle.logic.proofs.NormalForm.Sound.{nf-sound}
use Rattle.logic.proofs.SpecimenTrees.TreeRecord.{top-along, top_below, top-fits, tree-keeps, tree_record}
use Rattle.logic.proofs.SpecimenTrees.WitnessKeeps.{witness-keeps}
use Rattle.logic.proofs.SpecimenTrees.WitnessShows.{witness-fits, witness-refutes}
use Rattle.logic.specs.Background.{Background, Keeps, LawfulBackground}
use Rattle.logic.specs.Canonical.{Canonical}
use Rattle.logic.specs.Holds.{holds, holds_at}
use Rattle.logic.specs.Normal.{is_bottom, nf}
use Rattle.logic.specs.Place.{Atom, Place}
use Rattle.logic.specs.SpecimenTree.{SpecimenTree, fits_top}
use Rattle.logic.specs.Witness.{on, witness}
use Rattle.meaning.proofs.Descriptions.Paths.{fits-paths}
use Rattle.meaning.proofs.Specimens.SpecimenKeeps.{specimen-keeps}
use Rattle.meaning.proofs.Specimens.SpecimenLegal.{shown-bounded, shown-legal, shown-length}
use Rattle.meaning.proofs.Specimens.SpecimenRecord.{specimen-fits}
use Rattle.meaning.proofs.Verdicts.Contained.{failing-kind}
use Rattle.meaning.proofs.Verdicts.FirstLaws.{failing-least}
use Rattle.meaning.specs.Description.{atom_of, links_to, place_of}
use Rattle.meaning.specs.Failing.{failing, normal_of, specimen_of}
use Rattle.meaning.specs.First.{entry_holds, first_failing}
use Rattle.meaning.specs.Promise.{Shown}
use Rattle.meaning.specs.Specimen.{record_of}
use Rattle.meaning.specs.SpecimenFor.{specimen_for}

module _ {b : Background} (law : LawfulBackground b) (c d : List Entry) (Ld : Legal Description d) (n : ℕ) (lo : 1 ≤ n) (hi : n ≤ length d)
    (fails : entry_holds b (nf b (place_of c 0)) d n ≡ false) where
  abbrev normal : Place
  normal = nf b (place_of c 0)

  abbrev said : Atom
  said = atom_of (nth d n)

  abbrev shown : SpecimenTree
  shown = witness normal (on (links_to d n) said)

  not-holding : holds b normal (links_to d n) said ≡ false
  unfolding entry_holds
  not-holding = neither_right (eqb (nth d n).kind 5) (holds b normal (links_to d n) said) fails

  not_at : holds_at b normal (links_to d n) said ≡ false
  unfolding holds
  not_at = neither_right (is_bottom normal) (holds_at b normal (links_to d n) said) not-holding

  living : Canonical b normal
  unfolding holds
  living = alive law normal (nf-normal law (place_of c 0)) (neither_left (is_bottom normal) (holds_at b normal (links_to d n) said) not-holding)

  -- the top item fits C
  shown-fits : fits_top (place_of c 0) shown ≡ true
  shown-fits =
      let k = witness-keeps law normal living (on (links_to d n) said) not_at in
      sym (top-fits shown (place_of c 0))
      ∙ sym (nf-sound (tree_record shown) (tree-keeps b shown k.0 k.1) (place_of c 0) 0 (top_below shown))
      ∙ top-fits shown normal
      ∙ witness-fits b normal living (on (links_to d n) said) not_at

  -- and does not fit D
  shown-misses : fits_top (place_of d 0) shown ≡ false
  shown-misses =
      not-true (λ e.
      both_ways
      (fits-paths (tree_record shown) d Ld 0 (top-fits shown (place_of d 0) ∙ e) n lo hi (failing-kind law (place_of c 0) d n fails))
      (top-along shown (links_to d n) said ∙ witness-refutes b normal (links_to d n) said not_at))

  -- the specimen of an entry that fails
  pub failing-shown : Legal Description c → Shown c d (specimen_for normal d n)
  unfolding specimen_for
  failing-shown Lc =
      record {
        legal = shown-legal b c d n Lc Ld lo hi;
        fitting = specimen-fits shown (place_of c 0) ∙ shown-fits;
        missing = specimen-fits shown (place_of d 0) ∙ shown-misses;
        size = shown-length b c d n Lc Ld lo hi;
      }

  -- its record keeps the background
  pub failing-keeps : Legal Description c → Keeps b (record_of (specimen_for normal d n))
  unfolding specimen_for
  failing-keeps Lc =
      specimen-keeps b shown (shown-legal b c d n Lc Ld lo hi) (witness-keeps law normal living (on (links_to d n) said) not_at)

-- ---- the first entry that fails

module _ {b : Background} (law : LawfulBackground b) (c d : List Entry) (Lc : Legal Description c) (Ld : Legal Description d) {n : ℕ}
    (e : first_failing b (nf b (place_of c 0)) d ≡ n) (z : n ≢ 0) where
  -- the specimen shows that C is not contained in D
  pub first-shown : Shown c d (specimen_for (nf b (place_of c 0)) d n)
  first-shown =
      let r = failing-least b (nf b (place_of c 0)) d e z in
      failing-shown law c d Ld n r.low (omega (arith, r.high)) r.fails Lc

  -- its record keeps the background
  pub first-keeps : Keeps b (record_of (specimen_for (nf b (place_of c 0)) d n))
  first-keeps =
      let r = failing-least b (nf b (place_of c 0)) d e z in
      failing-keeps law c d Ld n r.low (omega (arith, r.high)) r.fails Lc

  -- and its fields fit their bytes if those of C and D do
  pub first-bounded : AllBounded c → AllBounded d → length c + length d ≤ 65536 → AllBounded (specimen_for (nf b (place_of c 0)) d n)
  first-bounded bc bd few =
      let r = failing-least b (nf b (place_of c 0)) d e z in
      shown-bounded b c d n Lc Ld r.low (omega (arith, r.high)) bc bd few

module _ {b : Background} (law : LawfulBackground b) (c d : List Entry) (Lc : Legal Description c) (Ld : Legal Description d)
    (z : failing b c d ≢ 0) where
  -- where the comparison finds an entry that fails, its specimen shows it
  pub not-contained-shown : Shown c d (specimen_of b c d)
  unfolding failing normal_of specimen_of
  not-contained-shown = first-shown law c d Lc Ld refl z

  -- and keeps the background
  pub not-contained-keeps : Keeps b (record_of (specimen_of b c d))
  unfolding failing normal_of specimen_of
  not-contained-keeps = first-keeps law c d Lc Ld refl z

  pub not-contained-bounded : AllBounded c → AllBounded d → length c + length d ≤ 65536 → AllBounded (specimen_of b c d)
  unfolding failing normal_of specimen_of
  not-contained-bounded bc bd few = first-bounded law c d Lc Ld refl z bc bd few
