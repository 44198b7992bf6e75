-- The specimen's rows are those that the slots and the path give, and written they are its blocks.
-- Assumes nothing.
use Prim.Native.Nat.{◌*◌, ◌+◌, ◌<◌, ◌≤◌, suc, ℕ}
use lib.ListN.{get_or, length, length-map, length-replicate, replicate, take}
use lib.Seq.{length-take-le}
use mathlib.Core.List.{List, [], ◌∷◌, map}
use mathlib.Core.Path.{◌∙◌, ◌≡◌, ap, refl, sym}
use native.Mathlib.Omega.{arith}
use Rattle.blocks.proofs.Refusing.Bounds.{AllBounded}
use Rattle.blocks.proofs.Refusing.Legal.{owner-earlier, owner-kind}
use Rattle.blocks.proofs.RoundTrip.Accepting.{written-encodes}
use Rattle.blocks.specs.Encoding.{written}
use Rattle.blocks.specs.Entries.{Bounded, entries_of, nth, packed}
use Rattle.blocks.specs.declared.Entry.{Entry}
use Rattle.compare.specs.code.Codes.{Writable, specimen_number, target_at, tree_by, up_from}
use Rattle.compare.specs.code.Prepared.{Showable, shown_after, shown_by}
use Rattle.logic.specs.Layout.{write}
use Rattle.logic.specs.SpecimenTree.{Group}
use Rattle.logic.specs.Tree.{Row}
use Rattle.meaning.proofs.Descriptions.LinkPaths.{links-most}
use Rattle.meaning.specs.Description.{links_to}
use Rattle.meaning.specs.Owned.{Owned}
use Rattle.meaning.specs.SpecimenFor.{row_entry, specimen_entries, specimen_for}
use Rattle.normal.proofs.NormalWritten.{written-front}

-- ---- the tables

-- cleared tables, with two numbers for each of the slots' or one, and a number for each row and one more
pub shown-tables : {t d : List ℕ} {n : ℕ} {out : List ℕ} (size k : ℕ) {l m : ℕ} → Showable t d n size out → length t ≤ k → l ≡ 2 * k → m ≡ size + 1
    → Showable t d n (length (replicate {A = ℕ} size 0)) out × (replicate {A = ℕ} l 0 ≡ replicate (length (replicate {A = ℕ} l 0)) 0)
    × (2 * length t ≤ length (replicate {A = ℕ} l 0)) × (length t ≤ length (replicate {A = ℕ} k 0)) × (length t ≤ length (replicate {A = ℕ} k 0))
    × (replicate {A = ℕ} m 0 ≡ replicate (length (replicate {A = ℕ} size 0) + 1) 0)
shown-tables size k s h e f = rw (e, f, length-replicate {A = ℕ} size 0, length-replicate {A = ℕ} (2 * k) 0, length-replicate {A = ℕ} k 0) (s, refl, omega arith, h, h, refl)

-- ---- the rows

-- the numbers of rows are their packed entries
rows-packed : (rs : List (Row ℕ Group)) → map packed (map row_entry rs) ≡ map specimen_number rs
rows-packed [] = refl
rows-packed (r ∷ rs) = rw (rows-packed rs)

module _ {t d : List ℕ} {n size : ℕ} {out : List ℕ} (s : Showable t d n size out) where
  abbrev ds : List Entry
  ds = entries_of d

  abbrev sp : List Entry
  sp = shown_by t d n

  -- owners stand before what they own, and few links lead to the entry
  pub shown-owned : Owned (entries_of d)
  shown-owned = record { earlier = owner-earlier s.legal; every = owner-kind s.legal }

  pub shown-links : length (links_to (entries_of d) n) ≤ 32
  shown-links = links-most ds s.legal n s.from s.to

  module _ (links : List ℕ) (m : ℕ) (path : links_to (entries_of d) n ≡ up_from links m) {e : Entry} (last : e ≡ nth (entries_of d) n) where
    abbrev rows : List (Row ℕ Group)
    rows = write (tree_by t links m e 1024)

    -- its entries are the rows that the slots and the path give
    shown-rows : sp ≡ map row_entry rows
    unfolding shown_by specimen_for specimen_entries target_at
    shown-rows = rw (path, last)

    rows-many : length rows ≡ length sp
    rows-many = sym (ap length shown-rows ∙ length-map rows row_entry)

    -- they can be written in the table
    pub shown-writable : m ≤ 32 → Writable t links m e size
    shown-writable short = record { stood = s.stood; short = short; room = omega (arith, rows-many, s.rows); fits = s.most }

    -- and written they are the specimen's blocks
    pub shown-written : ((i : ℕ) → get_or links i 0 < 65536) → Bounded e → (filled : List ℕ) (r : ℕ) → r ≤ length filled → take r filled ≡ map specimen_number rows
        → (r ≡ length (shown_by t d n)) × (r ≤ 2016) × (written out filled r ≡ shown_after t d n out)
    unfolding nth shown_after
    shown-written names fits filled r h packs =
        let numbers : take r filled ≡ map packed sp = packs ∙ rw shown-rows (sym (rows-packed rows)) in
        let count : r ≡ length sp = sym (length-take-le r filled h) ∙ ap length numbers ∙ length-map sp packed in
        let few : r ≤ 2016 = omega (arith, count, s.rows, s.most) in
        let each = s.bounded links m path names (rw (← last) fits) in
        let bound : AllBounded sp = record { each = λ k l. each (suc k) (omega arith) (omega arith) } in (
          count,
          few,
          written-front out filled r h ∙ ap (λ (q : List ℕ). written out q r) numbers ∙ ap (written out (map packed sp)) count
              ∙ written-encodes out sp bound (omega (arith, count, few)) s.room,
        )
