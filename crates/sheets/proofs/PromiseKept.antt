-- What is promised of reading a sheet: refused exactly by the first line that applies; accepted exactly where it is as a description and each entry is in the profile;
-- any refusal but 19 is that of the description; and 19 exactly at the lowest entry outside the profile.
-- Assumes nothing.
use Rattle.std.proofs.Common.{◌≡◌, ◌≢◌, ◌↔◌, ◌-◌, ◌≤◌, ℕ, suc, List, length, Ok, subst, sym, refl, ◌∙◌, arith}
use Rattle.base.proofs.Missing.{not-true}
use Rattle.base.proofs.Tests.{bool_cases, both_ways}
use Rattle.blocks.proofs.Refusing.FirstFault.{clean-none, first-append, first_found, found_first, none-clean}
use Rattle.blocks.proofs.Refusing.Readings.{accepted-finding, refused-finding}
use Rattle.blocks.proofs.Refusing.RowLaws.{none-split}
use Rattle.blocks.proofs.RoundTrip.Accepting.{none-of-accepted}
use Rattle.blocks.proofs.RoundTrip.RefusalNumbers.{description-number}
use Rattle.blocks.specs.Entries.{entries_of, form_ok, nth}
use Rattle.blocks.specs.Faults.{Clean, Fault, Faulty, block_faults, entry_faults, entry_rows, faults, first, rows_from}
use Rattle.blocks.specs.Frame.{blocks_in, plain, total_in}
use Rattle.blocks.specs.Owners.{depth_ok, owner_ok}
use Rattle.blocks.specs.Promise.{FirstOf, NoneApplies}
use Rattle.blocks.specs.Reading.{reading_of}
use Rattle.blocks.specs.Refusals.{refused}
use Rattle.blocks.specs.declared.Cause.{Cause}
use Rattle.blocks.specs.declared.Cause.TheVariants.{Depth, Form, Owner, Profile}
use Rattle.blocks.specs.declared.Entry.{Entry}
use Rattle.blocks.specs.declared.Schema.TheVariants.{Description}
use Rattle.narrow.proofs.Sheets.FurtherRow.{Further, found-outside, nothing-exactly, others-same, outside-found, with_all, without}
use Rattle.narrow.specs.Profile.{InProfile, Sheet}
use Rattle.reading.proofs.BlocksRead.{plain_faults}
use Rattle.sheets.proofs.Profiles.{profile-test, test-profile}
use Rattle.sheets.specs.Promise.{LowestOutside, SheetRead}
use Rattle.sheets.specs.Sheet.{sheet_faults, sheet_ok, sheet_reading}

-- no line of an entry of a description is number 19
never-outside : (es : List Entry) (j q : ℕ) → first (entry_rows Description es j) ≡ Faulty Profile q → ⊥
unfolding first
never-outside es j q e =
    bool_cases (form_ok Description (nth es j))
    (λ a. bool_cases (owner_ok Description es j)
    (λ b. bool_cases (depth_ok es j)
    (λ d. let w : Clean ≡ Faulty Profile q = rw (a, b, d) at e in cc)
    (λ d. let w : Faulty Depth j ≡ Faulty Profile q = rw (a, b, d) at e in cc))
    (λ b. let w : Faulty Owner j ≡ Faulty Profile q = rw (a, b) at e in cc))
    (λ a. let w : Faulty Form j ≡ Faulty Profile q = rw a at e in cc)

module _ (s : List ℕ) where
  abbrev es : List Entry
  es = entries_of s

  abbrev front : List Fault
  front = plain_faults Description s

  abbrev R : ℕ → List Fault
  R = entry_rows Description es

  -- the lines of a sheet are those of a description with one more at each entry
  sheet-lines : first (sheet_faults s) ≡ first (with_all front R (sheet_ok es) Profile (length es))
  unfolding sheet_faults
  sheet-lines = refl

  plain-lines : first (faults Description s) ≡ first (without front R (sheet_ok es) Profile (length es))
  unfolding faults entry_faults
  plain-lines = refl

  -- nor is one of the blocks
  never-block : (q : ℕ) → first front ≡ Faulty Profile q → ⊥
  unfolding reading_of faults
  never-block q c =
      let r : reading_of Description 1 s ≡ refused Profile 1 q =
      rw (first-append front (entry_faults Description es 1 (length es)), c) in
      let n = description-number 1 s r in
      omega arith

  pub sheet-exactly : (n : ℕ) → (sheet_reading s ≡ Ok n) ↔ ((reading_of Description 1 s ≡ Ok n) × Sheet es)
  unfolding sheet_reading reading_of
  sheet-exactly n = (
    λ e.
        let f = accepted-finding 1 (total_in plain s) (first (sheet_faults s)) e in
        let g = (nothing-exactly front R (sheet_ok es) Profile (length es)).0 (sym sheet-lines ∙ f.1) in
        (rw (plain-lines, g.0) (rw f.0), λ j a b. test-profile es j (g.1 j a b)),
    λ h.
        let f = accepted-finding 1 (total_in plain s) (first (faults Description s)) h.0 in
        let g = (nothing-exactly front R (sheet_ok es) Profile (length es)).1
        (sym plain-lines ∙ f.1, λ j a b. profile-test es j (h.1 j a b)) in
        rw (sheet-lines, g) (rw f.0),
  )

  pub other-than-nineteen : (k : Cause) (i p : ℕ) → k ≢ Profile → sheet_reading s ≡ refused k i p
      → reading_of Description 1 s ≡ refused k i p
  unfolding sheet_reading reading_of
  other-than-nineteen k i p z e =
      let f = refused-finding 1 (total_in plain s) (first (sheet_faults s)) e in
      let g = others-same front R (sheet_ok es) Profile (length es) (sym sheet-lines ∙ f.1) z in
      rw (plain-lines, g, f.0)

  pub nineteen-found : (i p : ℕ) → (sheet_reading s ≡ refused Profile i p) ↔ ((i ≡ 1) × LowestOutside s p)
  unfolding sheet_reading
  nineteen-found i p = (
    λ e.
        let f = refused-finding 1 (total_in plain s) (first (sheet_faults s)) e in
        let g = found-outside front R (sheet_ok es) Profile (length es) never-block (never-outside es)
        (sym sheet-lines ∙ f.1) in
        let u = g.1.0 in (
          f.0,
          record {
            low = u.from;
            high = g.1.1;
            outside = λ h. both_ways (profile-test es p h) u.applies;
            before = λ j a b. test-profile es j (u.before j a b);
            blocks = clean-none front g.0;
            entries = λ j a b. clean-none (R j) (u.others j a b);
          },
        ),
    λ h.
        let u = h.1 in
        let f : Further R (sheet_ok es) Profile 1 p = record {
          from = u.low;
          applies = not-true (λ t. u.outside (test-profile es p t));
          others = λ j a b. none-clean (R j) (u.entries j a b);
          before = λ j a b. profile-test es j (u.before j a b);
        } in
        let g = outside-found front R (sheet_ok es) Profile (length es) (none-clean front u.blocks) f u.high in
        rw (sheet-lines, g, h.0),
  )

  pub first-line : (k : Cause) (i p : ℕ) → (sheet_reading s ≡ refused k i p) ↔ ((i ≡ 1) × FirstOf (sheet_faults s) k p)
  unfolding sheet_reading
  first-line k i p = (
    λ e.
        let f = refused-finding 1 (total_in plain s) (first (sheet_faults s)) e in
        (f.0, found_first (sheet_faults s) k p f.1),
    λ h. let z = h.0 in rw (z, first_found (sheet_faults s) k p h.1),
  )

  pub sheet-read : SheetRead s
  sheet-read = record { first = first-line; accepted = sheet-exactly; others = other-than-nineteen; outside = nineteen-found }

  -- what is accepted as a description, and whose first entry is in no sheet, is refused by that entry
  pub outside-first : {n : ℕ} → reading_of Description 1 s ≡ Ok n → 1 ≤ length es → (InProfile es 1 → ⊥)
      → sheet_reading s ≡ refused Profile 1 1
  unfolding NoneApplies faults entry_faults rows_from
  outside-first e some out =
      let h = (none-of-accepted Description 1 s e).0 in
      let r = none-split (block_faults plain s (blocks_in s) 0 (blocks_in s)) (entry_faults Description es 1 (length es)) h.1 in
      let m : length es ≡ suc (length es - 1) = omega arith in
      let rows = subst (λ (k : ℕ). NoneApplies (rows_from R 1 k)) m r.1 in
      (nineteen-found 1 1).1 (
        refl,
        record {
          low = omega arith;
          high = some;
          outside = out;
          before = λ j a b. absurd (omega arith);
          blocks = (h.0, r.0);
          entries = λ j a b.
              let i : j ≡ 1 = omega arith in
              rw i (none-split (R 1) (rows_from R 2 (length es - 1)) rows).0;
        },
      )
