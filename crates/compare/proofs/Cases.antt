-- The desk examples: what the comparison answers and writes for each, and the normal forms that are given.
-- Assumes nothing.
use Prim.Native.Nat.{◌*◌, ◌+◌, ◌≤◌, ℕ}
use lib.Dec.{eqb, leb}
use lib.ListN.{length}
use mathlib.Core.Bool.{true}
use mathlib.Core.List.Memᴰ
use mathlib.Core.List.{List, Memᴰ, [], ◌∷◌}
use mathlib.Core.Logic.{⊎_elim}
use mathlib.Core.Path.{◌∙◌, ◌≡◌, ap, refl}
use native.Mathlib.Omega.{arith}
use Rattle.base.proofs.Tests.{leb-le, or_right}
use Rattle.base.specs.Search.{first_from}
use Rattle.blocks.proofs.Refusing.FirstFault.{clean-none}
use Rattle.blocks.proofs.Refusing.Legal.{none-legal}
use Rattle.blocks.proofs.RoundTrip.Accepting.{encoded-accepted}
use Rattle.blocks.proofs.RoundTrip.Decoding.{decode-encode}
use Rattle.blocks.specs.Encoding.{encode}
use Rattle.blocks.specs.Entries.{entries_of, form_ok, name_ok, nth, number_ok}
use Rattle.blocks.specs.Faults.{entry_faults, first, rows_from, Clean}
use Rattle.blocks.specs.Owners.{chain, depth_of, depth_ok, owner_of, owner_ok}
use Rattle.blocks.specs.Promise.{Legal}
use Rattle.blocks.specs.declared.Entry.{Entry}
use Rattle.blocks.specs.declared.Schema.TheVariants.{Description}
use Rattle.compare.proofs.AnswerLaws.{compared, empty-list, verdict-contained}
use Rattle.compare.specs.Answer.{compare_under, output_after, output_under, verdict}
use Rattle.compare.specs.Promise.{Right, answer_of, output_for}
use Rattle.logic.specs.Background.{standing}
use Rattle.logic.specs.Holds.{holds, holds_at}
use Rattle.logic.specs.Layout.{later, lay, weight, write}
use Rattle.logic.specs.Normal.{add, bottom, excluded, fill, find, insert, is_bottom, nf, put, put_every, remove, remove_every, remove_lacks, sub, within}
use Rattle.logic.specs.Place.{kind_of}
use Rattle.logic.specs.Tree.{tree}
use Rattle.logic.specs.Witness.{below, build, groups_by, member, names, once, path, put_ascending, with_properties, witness}
use Rattle.meaning.proofs.Verdicts.FirstLaws.{none-failing}
use Rattle.meaning.specs.Description.{links_to, links_up, place_of, row_of}
use Rattle.meaning.specs.Failing.{failing, normal_of, specimen_of}
use Rattle.normal.proofs.Cases.{computed-form}
use Rattle.meaning.specs.NormalEntries.{normal_entries}
use Rattle.meaning.specs.First.{entry_holds, first_failing}
use Rattle.meaning.specs.SpecimenFor.{specimen_entries, specimen_for}
use Rattle.meaning.specs.StarredCases.{Line, Outcome, compares, impossible, inside, lines, normalises, outside}

-- ---- by computing

-- a list of entries that no rule refuses, and that has room in 16 blocks
abbrev Lawful : List Entry → Type 0
Lawful es = (first (entry_faults Description es 1 (length es)) ≡ Clean) × (leb (length es) 1008 ≡ true)

abbrev Shows : List Entry → List Entry → Outcome → Type 0
Shows c d inside = Unit {0}
Shows c d (outside n sp) = specimen_of standing c d ≡ sp

-- what computes
abbrev Computes : Line → Type 0
Computes (compares c d o) = Lawful c × Lawful d × (verdict standing c d ≡ answer_of o) × Shows c d o
Computes (normalises c n) = Lawful c × (normal_entries standing c ≡ n)
Computes (impossible c) = normal_of standing c ≡ bottom

lawful-legal : (es : List Entry) → Lawful es → Legal Description es
lawful-legal es h = none-legal (clean-none _ h.0)

-- ---- from entries to blocks

few : (es : List Entry) → Lawful es → length es ≤ 63 * 16
few es l = let h : length es ≤ 1008 = leb-le l.1 in omega arith

module _ (c d : List Entry) (lc : Lawful c) (ld : Lawful d) (out : List ℕ) (room : length (encode c) + length (encode d) ≤ length out) where
  -- lists of entries, as blocks, are compared as they are
  compared-entries : compare_under standing (encode c) (encode d) out ≡ verdict standing c d
  compared-entries =
      compared standing (encode c) (encode d) out
      (record {
        first = length c;
        second = length d;
        first_read = encoded-accepted Description 1 c (lawful-legal c lc) tt (few c lc);
        second-read = encoded-accepted Description 2 d (lawful-legal d ld) tt (few d ld);
        room = room;
      })
      ∙ rw (decode-encode c, decode-encode d)

  output-entries : (o : Outcome) → Shows c d o → compare_under standing (encode c) (encode d) out ≡ answer_of o → output_under standing (encode c) (encode d) out ≡ output_for o out
  unfolding output_under
  output-entries inside s e = ap (output_after standing (encode c) (encode d) out) e
  output-entries (outside n sp) s e = ap (output_after standing (encode c) (encode d) out) e ∙ rw (decode-encode c, decode-encode d, s)

-- where nothing fits C, no entry fails
none-fails : (c d : List Entry) → normal_of standing c ≡ bottom → failing standing c d ≡ 0
unfolding failing entry_holds holds is_bottom
none-fails c d e = rw (failing, e) (none-failing standing bottom d (λ n lo hi. or_right (eqb (nth d n).kind 5) refl))

-- a line that computes is right
computes-right : (l : Line) → Computes l → Right [] l
computes-right (compares c d o) h = λ out room.
    let e = compared-entries c d h.0 h.1 out room ∙ h.2 in
    let empty = empty-list (encode c) (encode d) out in
    (empty.0 ∙ e, empty.1 ∙ output-entries c d h.0 h.1 out room o h.3 e)
computes-right (normalises c n) h = computed-form c n h.0.0 h.0.1 h.1
computes-right (impossible c) h = λ d out r.
    (empty-list (encode c) d out).0 ∙ compared standing (encode c) d out r
    ∙ verdict-contained standing (entries_of (encode c)) (entries_of d) (rw decode-encode (none-fails c (entries_of d) h))

-- ---- all lines

-- each line computes
data Each : List Line → Type 0 where
  none : Each []
  ◌also◌ : {l : Line} {ls : List Line} → Computes l → Each ls → Each (l ∷ ls)

infixr 5 ◌also◌
each_right : {ls : List Line} → Each ls → (l : Line) → Memᴰ l ls → Right [] l
each_right none l m = absurd (Memᴰ.not-nil m)
each_right (◌also◌ {l = a} h hs) l m = ⊎_elim (λ q. rw q (computes-right a h)) (λ r. each_right hs l r) (Memᴰ.cases_cons m)

-- every desk example is right
pub lines-right : (l : Line) → Memᴰ l lines → Right [] l
unfolding lines verdict normal_entries failing normal_of specimen_of first_failing first_from entry_holds specimen_for specimen_entries first entry_faults rows_from form_ok name_ok number_ok owner_ok owner_of nth depth_ok depth_of chain kind_of row_of place_of links_to links_up tree nf add within fill insert put put_every remove remove_every remove_lacks find sub excluded is_bottom holds holds_at witness build names once put_ascending member groups_by with_properties below path write lay later weight
lines-right =
    each_right
    (((refl, refl), (refl, refl), refl, tt)
    also ((refl, refl), (refl, refl), refl, tt)
    also ((refl, refl), (refl, refl), refl, refl)
    also ((refl, refl), refl)
    also ((refl, refl), (refl, refl), refl, tt)
    also ((refl, refl), (refl, refl), refl, tt)
    also ((refl, refl), (refl, refl), refl, tt)
    also ((refl, refl), (refl, refl), refl, tt)
    also ((refl, refl), (refl, refl), refl, refl)
    also ((refl, refl), refl)
    also refl
    also ((refl, refl), (refl, refl), refl, refl)
    also ((refl, refl), (refl, refl), refl, refl)
    also ((refl, refl), (refl, refl), refl, tt)
    also ((refl, refl), (refl, refl), refl, tt)
    also ((refl, refl), (refl, refl), refl, refl)
    also none)
