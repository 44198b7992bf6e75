-- The entries of a normal form: they are read as the normal form, so the same items fit them as the description; they are no more and
-- no deeper; the normal form of a normal form is itself, and descriptions of one meaning have one.
-- Assumes nothing.
use Prim.Native.Nat.{◌<◌, ◌≤◌, ℕ}
use lib.ListN.{length, length-map}
use mathlib.Core.List.{List, [], ◌∷◌, map}
use mathlib.Core.Logic.{◌↔◌}
use mathlib.Core.Path.{◌∙◌, ◌≡◌, ap, refl, sym}
use native.Mathlib.Omega.{arith}
use Rattle.blocks.specs.declared.Entry.{Entry}
use Rattle.logic.proofs.NormalForm.NormalSize.{nf-levels, nf-nodes}
use Rattle.logic.proofs.NormalForm.Sound.{nf-sound}
use Rattle.logic.proofs.OneMeaning.Unique.{idempotent, same-normal, unique}
use Rattle.logic.proofs.TreeRows.LayoutLaws.{write-length, write-reads}
use Rattle.logic.specs.Background.{Background, Keeps, LawfulBackground}
use Rattle.logic.specs.Layout.{write}
use Rattle.logic.specs.Meaning.{Equivalent}
use Rattle.logic.specs.Normal.{nf}
use Rattle.logic.specs.Place.{Atom, Place, atom, has, kind_of, lacks, least, most, nothing}
use Rattle.logic.specs.Record.{Record, fits}
use Rattle.logic.specs.Size.{levels, nodes}
use Rattle.logic.specs.Tree.{Row, leaf_row, node_row, tree}
use Rattle.meaning.proofs.Descriptions.PlaceSize.{place-nodes}
use Rattle.meaning.specs.Description.{place_of, row_of}
use Rattle.meaning.specs.NormalEntries.{normal_entries}
use Rattle.meaning.specs.RowEntries.{row_entry}

-- ---- rows and entries

-- the entry of a row is read as that row
row_back : (r : Row Atom ℕ) → row_of (row_entry r) ≡ r
unfolding row_of kind_of
row_back (leaf_row o (atom has n m)) = refl
row_back (leaf_row o (atom lacks n m)) = refl
row_back (leaf_row o (atom least n m)) = refl
row_back (leaf_row o (atom most n m)) = refl
row_back (leaf_row o (atom nothing n m)) = refl
row_back (node_row o l) = refl

pub rows_back : (rs : List (Row Atom ℕ)) → map row_of (map row_entry rs) ≡ rs
rows_back [] = refl
rows_back (r ∷ rs) = rw (row_back r, rows_back rs)

-- ---- a description

module _ (b : Background) (es : List Entry) where
  -- the entries are read as the normal form
  pub normal-place : place_of (normal_entries b es) 0 ≡ nf b (place_of es 0)
  unfolding place_of normal_entries
  normal-place =
      let t : Place = nf b (place_of es 0) in
      ap (λ (rs : List (Row Atom ℕ)). tree 1 rs 0) (rows_back (write t)) ∙ write-reads t

  -- the same items fit them, in every finite record that keeps the background
  pub same-items : (r : Record) → Keeps b r → (x : ℕ) → x < r.size
      → fits r (place_of (normal_entries b es) 0) x ≡ fits r (place_of es 0) x
  same-items r kept x i = ap (λ (t : Place). fits r t x) normal-place ∙ nf-sound r kept (place_of es 0) x i

  -- they are those of their own normal form
  pub normal-again : LawfulBackground b → normal_entries b (normal_entries b es) ≡ normal_entries b es
  unfolding normal_entries
  normal-again law =
      ap (λ (t : Place). map row_entry (write (nf b t))) normal-place
      ∙ ap (λ (t : Place). map row_entry (write t)) (idempotent law (place_of es 0))

  -- as many as the normal form has
  pub normal-count : length (normal_entries b es) ≡ nodes (nf b (place_of es 0))
  unfolding normal_entries
  normal-count = let t : Place = nf b (place_of es 0) in length-map (write t) row_entry ∙ write-length t

  -- no more than the description's
  pub normal-fewer : length (normal_entries b es) ≤ length es
  normal-fewer = omega (arith, normal-count, nf-nodes b (place_of es 0), place-nodes es)

  -- on no more levels
  pub normal-levels : levels (place_of (normal_entries b es) 0) ≤ levels (place_of es 0)
  normal-levels = rw normal-place (nf-levels b (place_of es 0))

-- two descriptions have one normal form exactly if the same items fit both in every finite record that keeps the background
pub normal-one : {b : Background} → LawfulBackground b → (c d : List Entry)
    → (normal_entries b c ≡ normal_entries b d) ↔ Equivalent b (place_of c 0) (place_of d 0)
unfolding normal_entries
normal-one {b} law c d = (
  λ e. same-normal law (place_of c 0) (place_of d 0)
      (sym (normal-place b c) ∙ ap (λ (es : List Entry). place_of es 0) e ∙ normal-place b d),
  λ f. ap (λ (t : Place). map row_entry (write t)) (unique law (place_of c 0) (place_of d 0) f),
)
