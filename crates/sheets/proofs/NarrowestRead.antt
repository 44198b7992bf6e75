-- The narrowest description that contains two field sheets, written in blocks, is read as a field sheet.
-- Assumes nothing.
use Rattle.std.proofs.Common.{◌≡◌, ℕ, ◌<◌, ◌≤◌, true, false, List, [], ◌∷◌, length, Ok, ◌⊎◌, inl, inr, ⊎_elim, sym, refl, ◌∙◌, arith}
use Rattle.blocks.proofs.RoundTrip.Accepting.{encoded-accepted, sound-of-accepted}
use Rattle.blocks.proofs.RoundTrip.Decoding.{decode-encode}
use Rattle.blocks.specs.Encoding.{encode}
use Rattle.blocks.specs.Entries.{entries_of, entry, nth}
use Rattle.blocks.specs.Promise.{Legal}
use Rattle.blocks.specs.Reading.{reading_of}
use Rattle.blocks.specs.Refusals.{refused}
use Rattle.blocks.specs.declared.Cause.TheVariants.{Profile}
use Rattle.blocks.specs.declared.Entry.{Entry}
use Rattle.blocks.specs.declared.Schema.TheVariants.{Description}
use Rattle.logic.proofs.NormalForm.IsNormal.{nf-normal}
use Rattle.logic.proofs.NormalForm.Sound.{nf-sound}
use Rattle.logic.proofs.Records.Kept.{lawful-standing}
use Rattle.logic.proofs.SpecimenTrees.WitnessKeeps.{counterexample}
use Rattle.logic.specs.Background.{Background, Keeps, LawfulBackground, standing}
use Rattle.logic.specs.Canonical.{Canonical}
use Rattle.logic.specs.Holds.{holds_at}
use Rattle.logic.specs.Layout.{lay, weight, write}
use Rattle.logic.specs.Normal.{bottom, is_bottom, nf}
use Rattle.logic.specs.Place.{atom, nothing}
use Rattle.logic.specs.Record.{Record, fits}
use Rattle.logic.specs.Witness.{member}
use Rattle.base.proofs.Tests.{both_ways}
use Rattle.meaning.proofs.Descriptions.EntryFields.{Positive}
use Rattle.meaning.specs.Description.{place_of}
use Rattle.meaning.specs.Failing.{normal_of}
use Rattle.narrow.proofs.Joining.NarrowestKept.{narrowest-legal}
use Rattle.narrow.proofs.Sheets.SheetsJoined.{narrowest-sheet}
use Rattle.narrow.specs.Join.{narrowest}
use Rattle.narrow.specs.Narrowest.{narrowest_entries, narrowest_place}
use Rattle.narrow.specs.Profile.{InProfile}
use Rattle.sheets.proofs.PromiseKept.{outside-first, sheet-exactly}
use Rattle.sheets.specs.Promise.{SheetOfBoth, SomeItemFits}
use Rattle.sheets.specs.Sheet.{sheet_reading}

legal-sheet : (s : List ℕ) {n : ℕ} → sheet_reading s ≡ Ok n → Legal Description (entries_of s)
legal-sheet s {n} r = (sound-of-accepted Description 1 s ((sheet-exactly s n).0 r).0).entries

module _ {b : Background} (law : LawfulBackground b) (none-excluded : (p q : ℕ) → b.excludes p q ≡ false)
    (c d : List ℕ) {n m : ℕ}
    (rc : sheet_reading c ≡ Ok n) (rd : sheet_reading d ≡ Ok m) where
  abbrev C : List Entry
  C = entries_of c

  abbrev D : List Entry
  D = entries_of d

  abbrev pub narrowest_sheet : List Entry
  narrowest_sheet = narrowest_entries b [] C D

  -- where no properties exclude each other, and some item of some record fits at least one of the two
  pub narrowest-accepted : (r : Record) → Keeps b r → (x : ℕ) → x < r.size
      → (fits r (place_of C 0) x ≡ true) ⊎ (fits r (place_of D 0) x ≡ true) → length narrowest_sheet ≤ 1008
      → sheet_reading (encode narrowest_sheet) ≡ Ok (length narrowest_sheet)
  narrowest-accepted r kept x inside item few =
      let all-named : (p q : ℕ) → b.excludes q p ≡ true → member p [] ≡ true =
      λ p q e. both_ways e (none-excluded q p) in
      let named : (p q : ℕ) → b.excludes q p ≡ true → Positive p = λ p q e. both_ways e (none-excluded q p) in
      let legal = narrowest-legal law [] tt all-named C D (legal-sheet c rc) (legal-sheet d rd) named in
      let sheet =
      narrowest-sheet law none-excluded C D (legal-sheet c rc) (legal-sheet d rd) ((sheet-exactly c n).0 rc).1
      ((sheet-exactly d m).0 rd).1
      r kept x inside item in
      (sheet-exactly (encode narrowest_sheet) (length narrowest_sheet)).1
      (encoded-accepted Description 1 narrowest_sheet legal tt few, rw (decode-encode narrowest_sheet) sheet)

-- ---- over what every record keeps, and only then

-- some item of some record fits s, or its normal form says that nothing fits
some-or-none : (s : List ℕ) → SomeItemFits s ⊎ (nf standing (place_of (entries_of s) 0) ≡ bottom)
unfolding holds_at
some-or-none s = ⊎_elim (λ e. inr e) (λ h. inl (shows h)) (nf-normal lawful-standing (place_of (entries_of s) 0))
  where
    shows : Canonical standing (nf standing (place_of (entries_of s) 0)) → SomeItemFits s
    shows h =
        let x = counterexample lawful-standing h [] (atom nothing 0 0) refl in
        record {
          shown = x.shown;
          keeps = x.kept;
          item = x.item;
          inside = x.inside;
          fitting = sym (nf-sound x.shown x.kept (place_of (entries_of s) 0) x.item x.inside) ∙ x.fitting;
        }

-- the sole entry of a description that nothing fits
abbrev nothing_fits : List Entry
nothing_fits = entry 6 0 0 0 ∷ []

module _ (c d : List ℕ) {n m : ℕ} (rc : sheet_reading c ≡ Ok n) (rd : sheet_reading d ≡ Ok m) where
  abbrev N : List Entry
  N = narrowest_entries standing [] (entries_of c) (entries_of d)

  both-none : nf standing (place_of (entries_of c) 0) ≡ bottom → nf standing (place_of (entries_of d) 0) ≡ bottom
      → N ≡ nothing_fits
  unfolding narrowest_entries narrowest_place normal_of narrowest is_bottom write lay weight
  both-none e f = rw (e, f) refl

  some-item : SomeItemFits c ⊎ SomeItemFits d → length N ≤ 1008 → sheet_reading (encode N) ≡ Ok (length N)
  some-item s few =
      let read = narrowest-accepted lawful-standing (λ p q. refl) c d rc rd in
      ⊎_elim (λ x. read x.shown x.keeps x.item x.inside (inl x.fitting) few)
      (λ x. read x.shown x.keeps x.item x.inside (inr x.fitting) few) s

  accepted-n : length N ≤ 1008 → reading_of Description 1 (encode N) ≡ Ok (length N)
  accepted-n few =
      encoded-accepted Description 1 N
      (narrowest-legal lawful-standing [] tt (λ p q e. both_ways e refl) (entries_of c) (entries_of d) (legal-sheet c rc)
      (legal-sheet d rd) (λ p q e. both_ways e refl))
      tt few

  -- that nothing fits is said by no sheet
  no-sheet : InProfile nothing_fits 1 → ⊥
  unfolding nth
  no-sheet h = ⊎_elim (λ k. omega arith) (⊎_elim (λ k. omega arith) (⊎_elim (λ k. omega arith) (λ k. omega arith))) h.kind

  refused-nothing : N ≡ nothing_fits → length N ≤ 1008 → sheet_reading (encode N) ≡ refused Profile 1 1
  refused-nothing e few =
      let back : entries_of (encode N) ≡ nothing_fits = decode-encode N ∙ e in
      outside-first (encode N) (accepted-n few) (rw back (omega arith)) (rw back no-sheet)

  -- the narrowest, written in blocks, is read as a sheet exactly where some item fits at least one of the two
  pub sheet-of-both : length N ≤ 1008 → SheetOfBoth c d (encode N) (length N)
  sheet-of-both few =
      record {
        accepted = (λ e. either (λ s. s) (λ r. read-refused r e), λ s. some-item s few);
        nothing = λ none. either (λ s. absurd (none s)) (λ r. r);
      }
    where
      read-refused : {X : Type 0} → sheet_reading (encode N) ≡ refused Profile 1 1 → sheet_reading (encode N) ≡ Ok (length N) → X
      read-refused r e = let z : ◌≡◌ {A = ℕ} 0 1 = cc in absurd (omega arith)

      -- some item fits one, or the blocks are refused
      either : {X : Type 0} → (SomeItemFits c ⊎ SomeItemFits d → X) → (sheet_reading (encode N) ≡ refused Profile 1 1 → X) → X
      either f g =
          ⊎_elim (λ x. f (inl x))
          (λ q. ⊎_elim (λ x. f (inr x)) (λ w. g (refused-nothing (both-none q w) few)) (some-or-none d))
          (some-or-none c)
