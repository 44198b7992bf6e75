-- The answer of the call, one law for each way through it.
-- Assumes nothing.
use Rattle.std.proofs.Common.{◌≡◌, ℕ, ◌+◌, ◌-◌, ◌<◌, ◌≤◌, Bool, false, List, [], ◌++◌, length, drop, get_or, Ok, Err, refl, sym, ap, ◌∙◌, arith, length-drop, subst}
use Rattle.std.proofs.lemmas.List.{ext_get_or, get_or_append_left, get_or-append_right, get_or-drop}
use lib.ListN.{length-append}
use Rattle.base.proofs.Lists.{get_d-listed, length-listed, listed}
use Rattle.base.proofs.Tests.{ge-ltb, lt-cases, lt-ltb}
use Rattle.base.specs.Range.{bit}
use Rattle.blocks.proofs.Refusing.Readings.{reading-cases}
use Rattle.blocks.specs.Entries.{entries_of, entry_of}
use Rattle.blocks.specs.Reading.{Reading, reading_of}
use Rattle.blocks.specs.Refusals.{refused}
use Rattle.blocks.specs.declared.Cause.{Cause}
use Rattle.blocks.specs.declared.Cause.TheVariants.{Room}
use Rattle.blocks.specs.declared.Refusal.{Refusal}
use Rattle.blocks.specs.declared.Schema.TheVariants.{Description, Named}
use Rattle.delivered.proofs.ReadingLaws.{list-refused, taken}
use Rattle.delivered.specs.Reading.{delivered_reading}
use Rattle.delivered.specs.Record.{delivered_record}
use Rattle.items.specs.Answer.{bytes_of, items_of, items_reading, marked_of}
use Rattle.items.specs.code.Record.{Marked}
use Rattle.lists.proofs.PartLaws.{parts-of-nil}
use Rattle.logic.specs.Record.{fits}
use Rattle.meaning.specs.Description.{place_of}
use Rattle.names.proofs.Legality.AcceptedReadings.{nameless-goes, nameless-sent, sent-accepted}
use Rattle.names.proofs.Legality.Nameless.{named_none}
use Rattle.names.specs.NamedReading.{dictionary_of, dictionary_reading, named_reading, named_unfolding, parts_reading, sent_of, unfolding_of, unnamed}
use Rattle.names.specs.Unfold.{unfolded_by}
use Rattle.pairs.specs.Pairs.{pairs_reading}
use Rattle.unfolding.proofs.BufferLaws.{sent-itself}

-- ---- a description as it is sent

-- what is accepted where no name can be given is a plain description
plainly-read : (s : List ℕ) {n : ℕ} → unfolding_of [] 2 s ≡ Ok n → reading_of Description 2 s ≡ Ok n
plainly-read s {n} u =
    subst (λ (x : List ℕ). reading_of Description 2 x ≡ Ok n) (sent-itself [] s refl) (sent-accepted [] 2 s u 2).0

-- and the other way round
pub none-unfolds : (s : List ℕ) {n : ℕ} → reading_of Description 2 s ≡ Ok n → unfolding_of [] 2 s ≡ Ok n
unfolding named_unfolding
none-unfolds s {n} e =
    let a : named_reading [] 2 s ≡ Ok n = named_none 2 s ∙ ap (unnamed (λ p. entry_of s p p)) e in
    let b : named_unfolding [] 2 s ≡ Ok (length (unfolded_by [] (entries_of s))) = rw (named_unfolding, a) in
    let u : unfolding_of [] 2 s ≡ Ok (length (unfolded_by [] (entries_of s))) = sym (nameless-sent 2 s [] refl) ∙ nameless-goes 2 s ∙ b in
    u ∙ sym (plainly-read s u) ∙ e

-- and what is refused so is refused
pub none-refused : (s : List ℕ) {n : ℕ} {x : Refusal} {A : Type 0} → reading_of Description 2 s ≡ Err x → reading_of (Named 0) 2 s ≡ Ok n → A
none-refused s {n} {x} e f =
    let z : ◌≡◌ {A = Reading} (Err x) (Ok n) = sym e ∙ plainly-read s (sym (nameless-sent 2 s [] refl) ∙ f) in
    let y : ◌≡◌ {A = ℕ} 0 1 = cc in
    absurd (omega arith)

-- ---- the inputs

-- a dictionary of length 0 is accepted
pub none-taken : dictionary_reading [] ≡ Ok 0
unfolding dictionary_reading parts_reading
none-taken = rw parts-of-nil

not-both : {n : ℕ} {k : Cause} {i p : ℕ} {A : Type 0} → ◌≡◌ {A = Reading} (refused k i p) (Ok n) → A
not-both z = let y : ◌≡◌ {A = ℕ} 0 1 = cc in absurd (omega arith)

module _ (P D : List ℕ) (total : ℕ) (r d : List ℕ) where
  pub pairs-first : {x : Refusal} → pairs_reading P ≡ Err x → Err x ≡ items_reading P D total r d
  unfolding items_reading
  pairs-first e = rw (items_reading, e)

  pub dictionary-next : {m : ℕ} {x : Refusal} → pairs_reading P ≡ Ok m → dictionary_reading D ≡ Err x → Err x ≡ items_reading P D total r d
  unfolding items_reading
  dictionary-next f e = rw (items_reading, f, e)

  module _ {k : ℕ} (T : dictionary_reading D ≡ Ok k) where
    pub record-next : {x : Refusal} → delivered_reading P total r ≡ Err x → Err x ≡ items_reading P D total r d
    unfolding items_reading
    record-next {x} e =
        reading-cases (pairs_reading P)
        (λ j i p f. sym e ∙ list-refused P total r f ∙ rw (items_reading, f))
        (λ m f. rw (items_reading, f, T, e))

    pub description-last : {n : ℕ} {a : Reading} → delivered_reading P total r ≡ Ok n → a ≡ unfolding_of D 2 d → a ≡ items_reading P D total r d
    unfolding items_reading unfolding_of
    description-last e q = let f = (taken P total r e).list in q ∙ rw (items_reading, unfolding_of, f, T, e)

  -- a record that is accepted has so many items at most
  pub items-few : {n : ℕ} → items_reading P D total r d ≡ Ok n → total ≤ 256
  unfolding items_reading
  items-few {n} e =
      reading-cases (pairs_reading P)
      (λ k i p f. not-both (rw (items_reading, f) at e))
      (λ m f. reading-cases (dictionary_reading D)
      (λ k i p g. not-both (rw (items_reading, f, g) at e))
      (λ l g. reading-cases (delivered_reading P total r)
      (λ k i p h. not-both (rw (items_reading, f, g, h) at e))
      (λ j h. (taken P total r h).most)))

-- ---- the output

module _ (P D : List ℕ) (total : ℕ) (r d out : List ℕ) where
  pub answer-refused : {x : Refusal} → items_reading P D total r d ≡ Err x → (Err x ≡ items_of P D total r d out) × (out ≡ marked_of P D total r d out)
  unfolding items_of marked_of
  answer-refused e = (rw (items_of, e), rw (marked_of, items_of, e))

  pub answer-short : {n : ℕ} → items_reading P D total r d ≡ Ok n → length out < total
      → (refused Room 0 0 ≡ items_of P D total r d out) × (out ≡ marked_of P D total r d out)
  unfolding items_of marked_of
  answer-short e h = (rw (items_of, e, lt-ltb h), rw (marked_of, items_of, e, lt-ltb h))

  -- bytes by number are a list and what stays of another
  bytes-over : (f : ℕ → ℕ) (new : List ℕ) → total ≤ length out → length new ≡ length out → ((x : ℕ) → x < total → get_or new x 0 ≡ f x)
      → ((x : ℕ) → total ≤ x → get_or new x 0 ≡ get_or out x 0) → new ≡ listed f 0 total ++ drop total out
  bytes-over f new room long here later =
      let bytes = listed f 0 total in
      let few : length bytes ≡ total = length-listed f 0 total in
      ext_get_or 0 new (bytes ++ drop total out) (omega (arith, length-append bytes (drop total out), length-drop total out))
      (λ x l.
      lt-cases x total
      (λ h.
      let z : 0 + x ≡ x = omega arith in
      here x h ∙ sym (get_or_append_left bytes (drop total out) 0 x (omega arith) ∙ get_d-listed f 0 total 0 x h ∙ ap f z))
      (λ h.
      let at : total + (x - total) ≡ x = omega arith in
      let past : get_or (drop total out) (x - total) 0 ≡ get_or out x 0 = get_or-drop total out (x - total) 0 ∙ rw at in
      later x h ∙ sym (get_or-append_right bytes (drop total out) total x 0 few h ∙ past)))

  pub answer-written : (marks : List Bool) {n : ℕ} {new : List ℕ} → items_reading P D total r d ≡ Ok n → total ≤ length out
      → Marked D total (entries_of r) d marks → length new ≡ length out → ((x : ℕ) → x < total → get_or new x 0 ≡ bit (get_or marks x false))
      → ((x : ℕ) → total ≤ x → get_or new x 0 ≡ get_or out x 0)
      → (Ok total ≡ items_of P D total r d out) × (new ≡ marked_of P D total r d out)
  unfolding items_of marked_of bytes_of
  answer-written marks {n} {new} e h M long here later =
      let few = items-few P D total r d e in
      let t = place_of (entries_of (sent_of D d)) 0 in
      let c = delivered_record total (entries_of r) in
      let w = bytes-over (λ x. bit (fits c t x)) new h long (λ x l. here x l ∙ ap bit (M x (omega arith))) later in
      (rw (items_of, e, ge-ltb h), w ∙ rw (marked_of, items_of, e, ge-ltb h))
