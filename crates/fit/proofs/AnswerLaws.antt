-- Laws of the fit answer: what accepted inputs keep, and one law for each way through the code.
-- Assumes nothing.
use Prim.Native.Nat.{◌≤◌, ℕ}
use lib.ListN.{length}
use mathlib.Core.Bool.{Bool}
use mathlib.Core.List.{List, []}
use mathlib.Core.Path.{◌∙◌, ◌≡◌, sym}
use native.Mathlib.Omega.{arith}
use Rattle.blocks.proofs.Refusing.Legal.{owner-earlier}
use Rattle.blocks.proofs.Refusing.SingleLaws.{single-most}
use Rattle.blocks.proofs.RoundTrip.Accepting.{none-of-accepted, sound-of-accepted}
use Rattle.blocks.proofs.RoundTrip.Faithful.{entries-limit, entries-whole}
use Rattle.blocks.specs.Entries.{entries_of, limit_of}
use Rattle.blocks.specs.Reading.{reading_of, Reading}
use Rattle.blocks.specs.code.Blockwise.{Whole}
use Rattle.std.specs.Prelude.{Ok}
use Rattle.blocks.specs.Refusals.{refused}
use Rattle.blocks.specs.declared.Schema.{Schema}
use Rattle.blocks.specs.declared.Schema.TheVariants.{Description, Named, Specimen}
use Rattle.fit.proofs.FitByNumber.{fit-by-groups}
use Rattle.clashes.proofs.Ways.{empty-reading}
use Rattle.clashes.specs.Clash.{specimen_reading}
use Rattle.fit.specs.Answer.{FitAnswer, fit_of, plain_fit, second_of, top_fits}
use Rattle.fit.specs.Counted.{counted_of, groups_in, table_adds, unless_stopped, with_table}
use Rattle.fit.specs.code.Groups.{fits_place}
use Rattle.fit.specs.code.Index.{Ordered}
use Rattle.fit.specs.code.Rows.{Singles}
use Rattle.fit.specs.declared.Counted.{Counted}
use Rattle.blocks.specs.declared.Cause.{Cause}

limit-most : (σ : Schema) → limit_of σ ≤ 32
limit-most Description = omega arith
limit-most Specimen = omega arith
limit-most (Named most) = omega arith

-- an accepted input has the number of entries that was answered, at most 2,016, each after its owner
pub accepted-facts : (σ : Schema) (i : ℕ) (s : List ℕ) {n : ℕ} → reading_of σ i s ≡ Ok n
    → (n ≡ length (entries_of s)) × (n ≤ 2016) × Ordered (entries_of s) × Whole s n
accepted-facts σ i s e =
    let count = (none-of-accepted σ i s e).1 in
    let sound = sound-of-accepted σ i s e in
    (count, omega (arith, entries-limit sound.blocks, limit-most σ), record { earlier = λ k lo hi. owner-earlier sound.entries k lo hi }, rw count (entries-whole sound.blocks))

-- and no owner two items by a link that leads to one item only
pub accepted-single : (i : ℕ) (s : List ℕ) {n : ℕ} → reading_of Specimen i s ≡ Ok n → Singles (entries_of s) (length (entries_of s))
accepted-single i s e o l q = single-most (entries_of s) o l q (length (entries_of s)) (sound-of-accepted Specimen i s e).further.each

-- the answer by groups and numbers is the record's
pub top-judged : (s d : List ℕ) {m : ℕ} {r : Bool} → reading_of Description 2 d ≡ Ok m
    → r ≡ fits_place 33 (entries_of s) (entries_of d) 0 0 → r ≡ top_fits s d
unfolding top_fits
top-judged s d e h = h ∙ sym (fit-by-groups (entries_of s) (entries_of d) (sound-of-accepted Description 2 d e).entries)

-- ---- the second input

pub second-refused : (s d : List ℕ) {x : Reading} {k : Cause} {i p : ℕ} → x ≡ reading_of Description 2 d → x ≡ refused k i p
    → refused k i p ≡ second_of s d (reading_of Description 2 d)
second-refused s d e f = rw (← e, f)

pub second-judged : (s d : List ℕ) {x : Reading} {m : ℕ} {r : Bool} → x ≡ reading_of Description 2 d → x ≡ Ok m → r ≡ top_fits s d
    → Ok r ≡ second_of s d (reading_of Description 2 d)
second-judged s d e f h = rw (← e, f, ← h)

-- ---- the first input

module _ (P s d : List ℕ) {x : Reading} (e : x ≡ specimen_reading P s) where
  pub first-refused : {k : Cause} {i p : ℕ} → x ≡ refused k i p → refused k i p ≡ fit_of P s d
  unfolding fit_of
  first-refused f = rw (fit_of, ← e, f)

  pub first-accepted : {n : ℕ} {r : FitAnswer} → x ≡ Ok n → r ≡ second_of s d (reading_of Description 2 d) → r ≡ fit_of P s d
  unfolding fit_of
  first-accepted f h = h ∙ rw (fit_of, ← e, f)

-- [S11] an empty list is none
pub empty-list : (s d : List ℕ) → fit_of [] s d ≡ plain_fit s d
unfolding fit_of plain_fit
empty-list s d = rw (fit_of, empty-reading s)

-- ---- with the additions

-- what was counted where the specimen is accepted, by what reading the description answers
abbrev counted_by : List ℕ → List ℕ → Reading → Counted
counted_by s d r = with_table (second_of s d r) (unless_stopped r (groups_in s))

module _ (s d : List ℕ) {x : Reading} (read : x ≡ reading_of Description 2 d) where
  pub counted-refused : {k : Cause} {i p : ℕ} {c : Counted} → x ≡ refused k i p → c ≡ with_table (refused k i p) 0 → c ≡ counted_by s d (reading_of Description 2 d)
  counted-refused f h = h ∙ rw (← read, f)

  -- both inputs are accepted, and the top item was judged
  module _ {m t w : ℕ} {r : Bool} (f : x ≡ Ok m) (h : r ≡ top_fits s d) where
    pub counted-judged : t ≡ groups_in s → w ≡ 0 → record { answer = Ok r; table = t; walk = w } ≡ counted_by s d (reading_of Description 2 d)
    counted-judged a b = rw (a, b, ← read, f, ← h)

module _ (s d : List ℕ) {x : Reading} {c : Counted} (read : x ≡ reading_of Specimen 1 s) where
  pub counted-first-refused : {k : Cause} {i p : ℕ} → x ≡ refused k i p → c ≡ with_table (refused k i p) 0 → c ≡ counted_of s d
  unfolding plain_fit table_adds
  counted-first-refused f h = h ∙ rw (plain_fit, table_adds, ← read, f)

  pub counted-first : {n : ℕ} → x ≡ Ok n → c ≡ counted_by s d (reading_of Description 2 d) → c ≡ counted_of s d
  unfolding plain_fit table_adds
  counted-first f h = h ∙ rw (plain_fit, table_adds, ← read, f)
