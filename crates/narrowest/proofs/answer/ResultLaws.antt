-- The result, by which forms nothing fits, and what is answered.
-- Assumes nothing.
use Prim.Native.Nat.{◌<◌, ℕ}
use lib.Dec.{eqb}
use lib.ListN.{get_or, length, length-map}
use mathlib.Core.Bool.{false, true}
use mathlib.Core.List.{List, [], ◌∷◌, map}
use mathlib.Core.Path.{◌∙◌, ◌≡◌, refl, sym}
use native.Mathlib.Omega.{arith}
use Rattle.base.proofs.Tests.{eq-cases, eq-eqb, eqb-sym, ne_eqb}
use Rattle.blocks.proofs.Refusing.Legal.{owner-earlier}
use Rattle.blocks.specs.Entries.{nth, packed, zero_entry}
use Rattle.blocks.specs.Owners.{owner_of}
use Rattle.blocks.specs.Promise.{Legal}
use Rattle.blocks.specs.Words.{word_at}
use Rattle.blocks.specs.declared.Entry.{Entry}
use Rattle.blocks.specs.declared.Schema.TheVariants.{Description}
use Rattle.logic.proofs.NormalForm.IsNormal.{alive}
use Rattle.logic.specs.Layout.{write}
use Rattle.logic.specs.Normal.{is_bottom}
use Rattle.logic.specs.Tree.{tree}
use Rattle.meaning.proofs.Descriptions.Lookups.{kind-range, rank-kind}
use Rattle.meaning.specs.Description.{place_of, row_of}
use Rattle.narrow.specs.Join.{narrowest}
use Rattle.narrowest.proofs.answer.FormedLaws.{rows-packed}
use Rattle.narrowest.specs.code.Codes.{place_by, tree_by}
use Rattle.narrowest.specs.code.Formed.{Formed, result_entries, result_place, top_of}
use Rattle.narrowest.specs.code.Forms.{Held, entries_in}
use Rattle.narrowest.specs.code.Mates.{Joinable}
use Rattle.narrowest.specs.code.Pushes.{row_number}
use Rattle.pairs.proofs.Under.{ruled-under}
use Rattle.pairs.specs.Promise.{ListRead}
use Rattle.unfolding.specs.code.Rows.{entry_of_row}

-- ---- whether nothing fits a form

first-kind : (es : List Entry) → Legal Description es → 0 < length es → is_bottom (place_of es 0) ≡ eqb (get_or es 0 zero_entry).kind 6
unfolding place_of row_of tree is_bottom nth owner_of
first-kind [] L h = absurd (omega arith)
first-kind (e ∷ es) L h =
    let k = kind-range (e ∷ es) L 1 (omega arith) (omega arith) in
    let o : e.owner ≡ 0 = let w = owner-earlier L 1 (omega arith) (omega arith) in omega arith in
    eq-cases e.kind 5
    (λ q. rw (eq-eqb q, eq-eqb (sym o), q) refl)
    (λ q. rw (ne_eqb q, eq-eqb (sym o), rank-kind e.kind k.0 k.1 q) (eqb-sym 6 e.kind))

pub bottom-first : {rows : List ℕ} → Held rows → 0 < length rows → is_bottom (top_of rows) ≡ eqb (entry_of_row (get_or rows 0 0)).kind 6
bottom-first {rows} H h = first-kind (entries_in rows) H.legal (omega (arith, length-map rows entry_of_row, h)) ∙ at rows h
  where
    at : (rows : List ℕ) → 0 < length rows → eqb (get_or (entries_in rows) 0 zero_entry).kind 6 ≡ eqb (entry_of_row (get_or rows 0 0)).kind 6
    at [] h = absurd (omega arith)
    at (x ∷ rows) h = refl

pub bottom-none : (rows : List ℕ) → length rows ≡ 0 → is_bottom (top_of rows) ≡ false
unfolding place_of tree is_bottom
bottom-none [] h = refl
bottom-none (x ∷ rows) h = absurd (omega arith)

-- ---- the result by the two forms

module _ {P a b : List ℕ} (A : Formed P a) (B : Formed P b) where
  pub first-bottom : is_bottom (top_of a) ≡ true → b ≡ map row_number (write (result_place P a b))
  unfolding result_place narrowest
  first-bottom e = rw e B.laid

  pub second-bottom : is_bottom (top_of a) ≡ false → is_bottom (top_of b) ≡ true → a ≡ map row_number (write (result_place P a b))
  unfolding result_place narrowest
  second-bottom e f = rw (e, f) A.laid

  pub neither-bottom : is_bottom (top_of a) ≡ false → is_bottom (top_of b) ≡ false
      → map row_number (write (tree_by P (entries_in a) (entries_in b) 0)) ≡ map row_number (write (result_place P a b))
  unfolding result_place narrowest place_by
  neither-bottom e f = rw (e, f) refl

  pub joinable : ListRead P → ((i : ℕ) → word_at P i < 65536) → is_bottom (top_of a) ≡ false → is_bottom (top_of b) ≡ false → Joinable P a b
  joinable l w e f =
      let law = (ruled-under P l.list_read).lawful in
      record { list = l; words = w; first = alive law (top_of a) A.normal e; second = alive law (top_of b) B.normal f }

pub result-packed : (P a b : List ℕ) → map row_number (write (result_place P a b)) ≡ map packed (result_entries P a b)
unfolding result_entries
result-packed P a b = rows-packed (write (result_place P a b))
