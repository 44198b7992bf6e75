-- The examples of normal forms: what normalising answers and writes for each.
-- Assumes nothing.
use Prim.Native.Nat.{◌≤◌}
use lib.Dec.{leb}
use lib.ListN.{length}
use mathlib.Core.Bool.{true}
use mathlib.Core.List.Memᴰ
use mathlib.Core.List.{List, Memᴰ, [], ◌∷◌}
use mathlib.Core.Logic.{⊎_elim}
use mathlib.Core.Path.{◌∙◌, ◌≡◌, ap, refl}
use native.Mathlib.Omega.{arith}
use Rattle.base.proofs.Tests.{leb-le}
use Rattle.blocks.proofs.Refusing.FirstFault.{clean-none}
use Rattle.blocks.proofs.Refusing.Legal.{none-legal}
use Rattle.blocks.proofs.RoundTrip.Accepting.{encoded-accepted}
use Rattle.blocks.proofs.RoundTrip.Decoding.{decode-encode}
use Rattle.blocks.specs.Encoding.{encode}
use Rattle.blocks.specs.Entries.{entries_of, form_ok, name_ok, nth, number_ok}
use Rattle.blocks.specs.Faults.{entry_faults, first, rows_from, Clean}
use Rattle.blocks.specs.Owners.{chain, depth_of, depth_ok, owner_of, owner_ok}
use Rattle.blocks.specs.declared.Entry.{Entry}
use Rattle.blocks.specs.declared.Schema.TheVariants.{Description}
use Rattle.logic.specs.Background.{standing}
use Rattle.logic.specs.Layout.{later, lay, weight, write}
use Rattle.logic.specs.Normal.{add, excluded, fill, find, insert, is_bottom, nf, put, put_every, remove, remove_every, remove_lacks, sub, within}
use Rattle.logic.specs.Place.{kind_of}
use Rattle.logic.specs.Tree.{tree}
use Rattle.meaning.specs.Description.{place_of, row_of}
use Rattle.meaning.specs.NormalEntries.{normal_entries}
use Rattle.meaning.specs.NormalExamples.{Line, lines, normalises}
use Rattle.normal.proofs.AnswerLaws.{empty-list, normalised}
use Rattle.normal.specs.Answer.{normalise_under, normalised_under, output_after}
use Rattle.normal.specs.Promise.{NormalisedAs, Right}
use Rattle.std.specs.Prelude.{Ok}

-- what computes: no rule refuses the entries, they have room in 16 blocks, and the normal form's entries are those given
abbrev Computes : Line → Type 0
Computes (normalises c n) = (first (entry_faults Description c 1 (length c)) ≡ Clean) × (leb (length c) 1008 ≡ true) × (normal_entries standing c ≡ n)

-- a normal form that computes, in blocks
pub computed-form : (c n : List Entry) → first (entry_faults Description c 1 (length c)) ≡ Clean → leb (length c) 1008 ≡ true → normal_entries standing c ≡ n → NormalisedAs [] c n
unfolding normalised_under
computed-form c n clean small h out room =
    let few : length c ≤ 1008 = leb-le small in
    let read = encoded-accepted Description 1 c (none-legal (clean-none _ clean)) tt (omega arith) in
    let form : normal_entries standing (entries_of (encode c)) ≡ n = rw (decode-encode c) h in
    let e : normalise_under standing (encode c) out ≡ Ok (length n) =
    normalised standing (encode c) out (record { total = length c; read = read; room = room }) ∙ ap (λ (es : List Entry). Ok (length es)) form in
    let empty = empty-list (encode c) out in
    (empty.0 ∙ e, empty.1 ∙ ap (output_after standing (encode c) out) e ∙ rw form)

-- a line that computes is right
computes-right : (l : Line) → Computes l → Right [] l
computes-right (normalises c n) h = computed-form c n h.0 h.1 h.2

-- each line computes
data Each : List Line → Type 0 where
  none : Each []
  ◌also◌ : {l : Line} {ls : List Line} → Computes l → Each ls → Each (l ∷ ls)

infixr 5 ◌also◌
each_right : {ls : List Line} → Each ls → (l : Line) → Memᴰ l ls → Right [] l
each_right none l m = absurd (Memᴰ.not-nil m)
each_right (◌also◌ {l = a} h hs) l m = ⊎_elim (λ q. rw q (computes-right a h)) (λ r. each_right hs l r) (Memᴰ.cases_cons m)

-- every example is right
pub lines-right : (l : Line) → Memᴰ l lines → Right [] l
unfolding lines normal_entries first entry_faults rows_from form_ok name_ok number_ok owner_ok owner_of nth depth_ok depth_of chain kind_of row_of place_of tree nf add within fill insert put put_every remove remove_every remove_lacks find sub excluded is_bottom write lay later weight
lines-right =
    each_right
    ((refl, refl, refl) also (refl, refl, refl) also (refl, refl, refl) also (refl, refl, refl)
    also (refl, refl, refl) also (refl, refl, refl) also (refl, refl, refl) also (refl, refl, refl)
    also (refl, refl, refl) also (refl, refl, refl) also (refl, refl, refl) also (refl, refl, refl)
    also (refl, refl, refl) also (refl, refl, refl)
    also none)
