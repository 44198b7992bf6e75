-- The normal form that stands in a table: it can be searched, and is that of the description.
-- Assumes nothing.
use Prim.Native.Nat.{◌<◌, ◌≤◌, suc, zero, ℕ}
use lib.Dec.{eqb, ltb}
use lib.ListN.{get_or, length, take}
use lib.Seq.{length-take-le}
use mathlib.Core.Bool.{true}
use mathlib.Core.List.{List, [], ◌∷◌, map}
use mathlib.Core.Path.{◌∙◌, ◌≡◌, ap, ap₂, refl, sym}
use native.Mathlib.Omega.{arith}
use Rattle.base.proofs.Tests.{and_left, and_right, eqb-eq, ltb-lt, or_cases}
use Rattle.base.specs.Ascending.{AllAfter, Sorted}
use Rattle.blocks.proofs.Refusing.Bounds.{AllBounded}
use Rattle.blocks.specs.Entries.{entries_of, nth, packed}
use Rattle.blocks.specs.declared.Entry.{Entry}
use Rattle.logic.proofs.NormalForm.IsNormal.{nf-normal}
use Rattle.logic.proofs.PlaceTrees.Order.{before-cases}
use Rattle.logic.specs.Background.{LawfulBackground}
use Rattle.logic.specs.Layout.{write}
use Rattle.logic.specs.Normal.{nf}
use Rattle.logic.specs.Place.{Atom}
use Rattle.logic.specs.Tree.{Row}
use Rattle.meaning.proofs.NormalForms.NormalAscends.{normal-ascends}
use Rattle.meaning.proofs.NormalForms.NormalEntriesLaws.{normal-place}
use Rattle.meaning.proofs.NormalForms.NormalLegal.{normal-bounded, normal-legal}
use Rattle.meaning.specs.Description.{place_of}
use Rattle.meaning.specs.NormalEntries.{normal_entries}
use Rattle.meaning.specs.RowEntries.{entry_before, row_entry}
use Rattle.narrow_listed.proofs.AcceptedLegal.{few-read, legal-read}
use Rattle.narrowest.proofs.form.SeekLaws.{entry-small}
use Rattle.narrowest.specs.code.Formed.{Formed, top_of}
use Rattle.narrowest.specs.code.Forms.{entries_in, key_in}
use Rattle.narrowest.specs.code.Pushes.{row_number}
use Rattle.normal.specs.code.Formed.{FormRows}
use Rattle.pairs.proofs.Under.{ruled-under}
use Rattle.pairs.specs.Pairs.{under}
use Rattle.unfolding.proofs.RowLaws.{row-entry}
use Rattle.unfolding.specs.code.Rows.{entry_of_row}

-- ---- packed entries, unpacked

unpacked : (es : List Entry) → AllBounded es → map entry_of_row (map packed es) ≡ es
unpacked [] b = refl
unpacked (e ∷ es) b =
    ap₂ (λ (x : Entry) (xs : List Entry). x ∷ xs) (row-entry e (b.each 0 (omega arith))) (unpacked es (record { each = λ k l. b.each (suc k) (omega arith) }))

pub rows-packed : (rs : List (Row Atom ℕ)) → map row_number rs ≡ map packed (map row_entry rs)
rows-packed [] = refl
rows-packed (r ∷ rs) = ap (λ (z : List ℕ). row_number r ∷ z) (rows-packed rs)

-- ---- the order of the entries is that of their keys

key-before : (x y : ℕ) → entry_before (entry_of_row x) (entry_of_row y) ≡ true → key_in x < key_in y
unfolding key_in
key-before x y e =
    let a = entry_of_row x in
    let b = entry_of_row y in
    let s = entry-small x in
    let t = entry-small y in
    or_cases (ltb a.owner b.owner) _ e
    (λ h. omega (arith, ltb-lt h, s.0, s.1, t.0, t.1))
    (λ h.
    let o = eqb-eq (and_left (eqb a.owner b.owner) _ h) in
    before-cases a.kind a.name b.kind b.name (and_right (eqb a.owner b.owner) _ h)
    (λ k. omega (arith, o, k, s.0, s.1, t.0, t.1))
    (λ k n. omega (arith, o, k, n, s.0, s.1, t.0, t.1)))

after-keys : (x : ℕ) (rows : List ℕ) → AllAfter entry_before (entry_of_row x) (entries_in rows) → (j : ℕ) → j < length rows → key_in x < key_in (get_or rows j 0)
after-keys x [] h j l = absurd (omega arith)
after-keys x (y ∷ rows) h zero l = key-before x y h.0
after-keys x (y ∷ rows) h (suc j) l = after-keys x rows h.1 j (omega arith)

sorted-keys : (rows : List ℕ) → Sorted entry_before (entries_in rows) → (i j : ℕ) → i < j → j < length rows → key_in (get_or rows i 0) < key_in (get_or rows j 0)
sorted-keys [] h i j l m = absurd (omega arith)
sorted-keys (x ∷ rows) h i zero l m = absurd (omega arith)
sorted-keys (x ∷ rows) h zero (suc j) l m = after-keys x rows h.0 j (omega arith)
sorted-keys (x ∷ rows) h (suc i) (suc j) l m = sorted-keys rows h.1 i j (omega arith) (omega arith)

-- ---- what a table holds

module _ {P d rows : List ℕ} {k : ℕ} (F : FormRows P d k rows) (few : length rows ≤ 1008) where
  pub formed-law : LawfulBackground (under P)
  formed-law = (ruled-under P F.list.list_read).lawful

  abbrev N : List Entry
  N = normal_entries (under P) (entries_of d)

  pub input-bounded : AllBounded (entries_of d)
  unfolding nth
  input-bounded = record { each = λ i l. F.bounded (suc i) (omega arith) (omega arith) }

  formed-bounded : AllBounded N
  formed-bounded =
      normal-bounded (under P) (entries_of d) (legal-read 1 d F.read) input-bounded (omega (arith, few-read 1 d F.read))

  formed-entries : entries_in (take k rows) ≡ N
  formed-entries = ap (map entry_of_row) F.held ∙ unpacked N formed-bounded

  pub formed-place : top_of (take k rows) ≡ nf (under P) (place_of (entries_of d) 0)
  formed-place = ap (λ (es : List Entry). place_of es 0) formed-entries ∙ normal-place (under P) (entries_of d)

  pub formed_of : Formed P (take k rows)
  unfolding normal_entries
  formed_of =
      record {
        held = record {
          few = omega (arith, length-take-le k rows F.room, F.room, few);
          legal = rw formed-entries (normal-legal (under P) (entries_of d) (legal-read 1 d F.read));
          rising = sorted-keys (take k rows) (rw formed-entries (normal-ascends formed-law (entries_of d)));
        };
        normal = rw formed-place (nf-normal formed-law (place_of (entries_of d) 0));
        laid = rw formed-place (F.held ∙ sym (rows-packed (write (nf (under P) (place_of (entries_of d) 0)))));
      }
